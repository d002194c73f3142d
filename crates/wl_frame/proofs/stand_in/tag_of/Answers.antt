use Rattle.std.proofs.Common.{arith, sym, ap, ◌∙◌, take, List, ℕ, length}
use Rattle.wl_frame.specs.StandIn.{digested, digest_len}
use Rattle.wl_frame.proofs.Places.{take_cells}
use Rattle.wl_frame.proofs.stand_in.tag_of.Goals as goal

pub returns : goal.returns
returns c =
    let digest = c.digest_of.ensures in
    let len = ap length digest ∙ digest_len (digested c.args.key.now c.args.nonce.now c.args.aad.now c.args.body.now) in
    sym (take_cells 8 c.digest_of.result (omega arith)) ∙ ap (λ (x : List ℕ). take 8 x) digest
