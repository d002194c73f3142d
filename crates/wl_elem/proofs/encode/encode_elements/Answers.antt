use Rattle.std.proofs.Common.{◌≡◌, ◌+◌, List, [], ◌∷◌, ◌++◌, take, subst, sym, ap, ◌∙◌}
use Rattle.std.proofs.lemmas.List.{take_more}
use Rattle.wl_elem.specs.Element.{ElementValue}
use Rattle.wl_elem.specs.ElementList.{Elems}
use Rattle.wl_elem.proofs.Writing.{elems_more}
use Rattle.wl_elem.proofs.encode.encode_elements.Goals as goal

pub loop-e-preserved : goal.loop-e-preserved
loop-e-preserved c =
    let items = c.as_slice-e-items.result.now in
    let i = c.loop-e.e-index in
    let e = c.e-item.result in
    let more = elems_more (take i items) e c.loop-e.out c.write_element.new.out c.loop-e.invariant c.in_ok-write_element.ensures in
    let items_more : take i items ++ e ∷ [] ≡ take (i + 1) items = ap (λ (x : ElementValue). take i items ++ x ∷ []) c.e-item.is ∙ sym (take_more items i e c.loop-e-test.true) in
    subst (λ (x : List ElementValue). Elems x c.write_element.new.out) items_more more
