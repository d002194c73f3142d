use Rattle.std.proofs.Common.{arith, ◌<◌, sym, subst, ◌∙◌, Result}
use Rattle.std.proofs.lemmas.List.Elements.{All-from_get_or, recursion_from_All}
use Rattle.wl_elem.specs.declared.fault.Refusal.{Refusal}
use Rattle.wl_frame.specs.Frame.{FrameValue}
use Rattle.wl_frame.specs.Refusals.{ReadAs}
use Rattle.wl_frame.proofs.Once.{is_reading}
use Rattle.wl_frame.proofs.Again.{reads}
use Rattle.wl_frame.proofs.decode.decode_frame.Goals as goal

pub returns-clause-read : goal.returns-clause-read
returns-clause-read c =
    let is = recursion_from_All (λ octet. octet < 256) c.args.octets.now (All-from_get_or (λ octet. octet < 256) c.args.octets.now 0 (λ i _. omega (arith, c.type_inv.octets i))) in
    subst (λ (r : Result FrameValue Refusal). ReadAs c.args.octets.now r) (sym c.read_frame.ensures.made) (is_reading c.args.octets.now is)

pub returns-clause-only : goal.returns-clause-only
returns-clause-only c reading is = let e = reads c.args.octets.now reading is in c.read_frame.ensures.made ∙ e
