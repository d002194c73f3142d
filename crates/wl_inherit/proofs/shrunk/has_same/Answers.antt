use Rattle.std.proofs.Common.{◌+◌, true, false, drop, get_or, sym, ◌∙◌, arith}
use Rattle.wl_elem.specs.Element.{ElementValue}
use Rattle.wl_inherit.specs.Identity.{of_identity}
use Rattle.wl_inherit.proofs.Pairing.{some_element, found, found_has, not_found, at_pair, bodies_judged, other_bodies, same_bodies, none_left}
use Rattle.wl_inherit.proofs.shrunk.has_same.Goals as goal

pub returns-in_default-find : goal.returns-in_default-find
returns-in_default-find c =
    let first = found c.args.list.now c.args.id c.args.ext c.pairs.from c.in-Some.i c.in-Some.ensures in
    let none = not_found c.args.other.now c.args.id c.args.ext c.pairs.other_from c.in_default-find.ensures in
    at_pair _ _ _ _ _ first none c.pairs.invariant.rest

pub returns-then-not-same_at : goal.returns-then-not-same_at
returns-then-not-same_at c =
    let first = found c.args.list.now c.args.id c.args.ext c.pairs.from c.in-Some.i c.in-Some.ensures in
    let second = found c.args.other.now c.args.id c.args.ext c.pairs.other_from c.in-Some-find.j c.in-Some-find.ensures in
    let a = get_or c.args.list.now c.in-Some.i some_element in
    let b = get_or c.args.other.now c.in-Some-find.j some_element in
    let bodies = bodies_judged c.args.list.now _ c.args.other.now _ c.in-Some.i c.in-Some-find.j _ false c.as_slice.ensures.value c.as_slice-in-Some.ensures.value c.same_at.ensures c.if-not-same_at.true in
    let xs = of_identity c.args.id c.args.ext (drop (c.in-Some.i + 1) c.args.list.now) in
    let ys = of_identity c.args.id c.args.ext (drop (c.in-Some-find.j + 1) c.args.other.now) in
    sym (other_bodies a b xs ys bodies) ∙ at_pair _ _ _ _ _ first second c.pairs.invariant.rest

pub pairs-preserved : goal.pairs-preserved
pairs-preserved c =
    let first = found c.args.list.now c.args.id c.args.ext c.pairs.from c.in-Some.i c.in-Some.ensures in
    let second = found c.args.other.now c.args.id c.args.ext c.pairs.other_from c.in-Some-find.j c.in-Some-find.ensures in
    let a = get_or c.args.list.now c.in-Some.i some_element in
    let b = get_or c.args.other.now c.in-Some-find.j some_element in
    let bodies = bodies_judged c.args.list.now _ c.args.other.now _ c.in-Some.i c.in-Some-find.j _ true c.as_slice.ensures.value c.as_slice-in-Some.ensures.value c.same_at.ensures c.if-not-same_at.false in
    let xs = of_identity c.args.id c.args.ext (drop (c.in-Some.i + 1) c.args.list.now) in
    let ys = of_identity c.args.id c.args.ext (drop (c.in-Some-find.j + 1) c.args.other.now) in
    let one = found_has c.args.list.now c.args.id c.args.ext c.pairs.from c.in-Some.i c.in-Some.ensures in
    let two = found_has c.args.other.now c.args.id c.args.ext c.pairs.other_from c.in-Some-find.j c.in-Some-find.ensures in
    record {
      within = omega (arith, c.in-Some.ensures.1);
      rest = sym (same_bodies c.args.id c.args.ext a b xs ys one two bodies) ∙ at_pair _ _ _ _ _ first second c.pairs.invariant.rest;
    }

pub returns : goal.returns
returns c =
    let none = not_found c.args.list.now c.args.id c.args.ext c.pairs.from c.in_default.ensures in
    none_left c.args.other.now c.args.id c.args.ext c.pairs.other_from c.find-2.result c.is_none.result c.is_none.ensures c.find-2.ensures
    ∙ at_pair _ _ _ _ _ none (λ _. of_identity c.args.id c.args.ext (drop c.pairs.other_from c.args.other.now)) c.pairs.invariant.rest
