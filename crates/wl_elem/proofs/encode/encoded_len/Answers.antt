use Rattle.std.proofs.Common.{◌≡◌, ◌+◌, List, [], ◌∷◌, ◌++◌, take, subst, sym, ap, ◌∙◌, arith}
use Rattle.std.proofs.lemmas.List.{take_more}
use Rattle.wl_elem.specs.Element.{ElementValue}
use Rattle.wl_elem.specs.Encoding.{HasLength}
use Rattle.wl_elem.proofs.Writing.{length_more}
use Rattle.wl_elem.proofs.encode.encoded_len.Goals as goal

pub loop-e-preserved : goal.loop-e-preserved
loop-e-preserved c =
    let items = c.as_slice-e-items.result.now in
    let i = c.loop-e.e-index in
    let e = c.e-item.result in
    let more = length_more (take i items) e c.loop-e.sum c.element_len-sum.result c.loop-e.invariant.counted c.element_len-sum.ensures.exact in
    let items_more : take i items ++ e ∷ [] ≡ take (i + 1) items = ap (λ (x : ElementValue). take i items ++ x ∷ []) c.e-item.is ∙ sym (take_more items i e c.loop-e-test.true) in
    record {
      counted = subst (λ (x : List ElementValue). HasLength x (c.loop-e.sum + c.element_len-sum.result)) items_more more;
      bound = omega (arith, c.loop-e.invariant.bound, c.element_len-sum.ensures.bound);
    }
