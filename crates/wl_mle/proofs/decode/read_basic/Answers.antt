use Rattle.std.proofs.Common.{◌≡◌, ℕ, List, None, sym, ◌∙◌, subst}
use Rattle.wl_elem.specs.declared.why.Why.TheVariants.{CommonShort, CommonLong}
use Rattle.wl_elem.specs.declared.kind.ListKind.TheVariants.{Subelements}
use Rattle.wl_elem.specs.Block.{IsStopped}
use Rattle.wl_mle.specs.Fields.{info_fault}
use Rattle.wl_mle.specs.MultiLink.{basic_fault}
use Rattle.wl_mle.specs.Reading.{basic_with}
use Rattle.wl_mle.proofs.Bodies.{stopped_at, basic_sound}
use Rattle.wl_mle.proofs.decode.read_basic.Goals as goal

pub returns-in-Err : goal.returns-in-Err
returns-in-Err c =
    let control = c.args.control in
    let rest = c.args.rest.now in
    let sound = subst (λ (n : ℕ). info_fault CommonShort CommonLong n rest ≡ None) c.need-least.ensures c.in_ok-area.ensures.sound in
    let none : basic_fault control rest ≡ None = basic_sound control rest sound (sym c.has_reserved_link.ensures ∙ c.if-has_reserved_link.false) in
    stopped_at (basic_fault control rest) (basic_with control rest) rest c.in-Err.stop c.fault.result none (subst (λ (x : List ℕ). IsStopped Subelements x c.in-Err.stop) c.in_ok-area.ensures.behind c.in-Err.ensures.stopped) c.fault.ensures
