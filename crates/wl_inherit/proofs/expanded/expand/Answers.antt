use Rattle.std.proofs.Common.{List, ◌++◌, not, Ok, Err, ap, ◌∙◌}
use Rattle.std.specs.Prelude.{filter}
use Rattle.wl_elem.specs.Element.{ElementValue}
use Rattle.wl_inherit.specs.Identity.{is_non}
use Rattle.wl_inherit.specs.Inheritance.{is_inherited}
use Rattle.wl_inherit.proofs.Expansion.{one_expansion}
use Rattle.wl_inherit.proofs.LeavingOut.{takes_inherited, takes_own}
use Rattle.wl_inherit.proofs.expanded.expand.Goals as goal

pub returns-in-Err-clause-only : goal.returns-in-Err-clause-only
returns-in-Err-clause-only c reading h = one_expansion c.args.outer.now c.args.profile.now reading (Err c.in-Err.refusal) h c.in-Err.ensures.bad

pub returns-clause-read : goal.returns-clause-read
returns-clause-read c =
    let left = c.in-Ok.ensures.left_out in
    let inherited = is_inherited left.nons c.args.profile.now in
    let own = λ (e : ElementValue). not (is_non e.id e.ext) in
    let first = c.in_ok-put_others.ensures inherited (takes_inherited c.args.outer.now c.args.profile.now c.in-Ok.marks left) ∙ ap (λ (x : List ElementValue). x ++ filter inherited c.args.outer.now) c.new-list.ensures in
    (left.nons, left.are, c.in_ok-put_others-2.ensures own (takes_own c.args.profile.now c.of_non.result c.of_non.ensures) ∙ ap (λ (x : List ElementValue). x ++ filter own c.args.profile.now) first)

pub returns-clause-only : goal.returns-clause-only
returns-clause-only c reading h = one_expansion c.args.outer.now c.args.profile.now reading (Ok c.put_others-2.new.list) h (returns-clause-read c)
