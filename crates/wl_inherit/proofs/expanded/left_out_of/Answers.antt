use Rattle.std.proofs.Common.{◌<◌, List, length, get_or, ap, sym, subst, ◌∙◌, arith}
use Rattle.wl_elem.specs.Element.{ElementValue}
use Rattle.wl_inherit.specs.Inheritance.{BadNon}
use Rattle.wl_inherit.proofs.LeavingOut.{bad_at}
use Rattle.wl_inherit.proofs.expanded.left_out_of.Goals as goal

pub returns-in-Err-clause-bad : goal.returns-in-Err-clause-bad
returns-in-Err-clause-bad c =
    let e = c.index-elements-i.result in
    let inside : c.own.i < length c.args.profile.now = omega (arith, c.own-test.true, ap length c.as_slice-elements.ensures.value) in
    subst (BadNon 0 c.args.profile.now) (sym c.in_inner.ensures)
    (bad_at c.own.i c.args.profile.now e c.own.invariant.nons c.in-Err.refusal inside (c.index-elements-i.is ∙ ap (λ (xs : List ElementValue). get_or xs c.own.i e) c.as_slice-elements.ensures.value) c.own.invariant.are c.in-Err.ensures.bad.0 c.in-Err.ensures.bad.1)
