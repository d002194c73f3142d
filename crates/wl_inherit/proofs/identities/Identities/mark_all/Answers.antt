use Rattle.std.proofs.Common.{◌<◌, List, length, get_or, take, ap, subst, ◌∙◌, ◌≡◌, arith}
use Rattle.std.specs.Prelude.{All}
use Rattle.std.proofs.lemmas.List.{take_all}
use Rattle.std.proofs.lemmas.List.Elements.{All-more, recursion_from_All}
use Rattle.wl_elem.specs.Element.{ElementValue}
use Rattle.wl_inherit.specs.Identity.{IsIdentity}
use Rattle.wl_inherit.proofs.Marking.{all_more}
use Rattle.wl_inherit.proofs.identities.Identities.mark_all.Goals as goal

pub elements-preserved : goal.elements-preserved
elements-preserved c =
    let list = c.args.list.now in
    let i = c.elements.element-index in
    let e = c.element-item.result in
    let inside : i < length list = omega (arith, c.elements-test.true, ap length c.as_slice-element-items.ensures.value) in
    let at : e ≡ get_or list i e = c.element-item.is ∙ ap (λ (xs : List ElementValue). get_or xs i e) c.as_slice-element-items.ensures.value in
    record {
      marks = all_more list i e c.args.self.now c.elements.self c.mark.new.self inside at c.elements.invariant.marks c.mark.ensures.marks;
      identities = All-more (λ (x : ElementValue). IsIdentity x.id x.ext) list i e inside c.elements.invariant.identities (subst (λ (x : ElementValue). IsIdentity x.id x.ext) at c.mark.ensures.identity);
    }

pub returns-clause-identities : goal.returns-clause-identities
returns-clause-identities c =
    let whole : take c.elements.element-index c.args.list.now ≡ c.args.list.now = take_all c.elements.element-index c.args.list.now (omega (arith, c.elements-test.false, ap length c.as_slice-element-items.ensures.value)) in
    recursion_from_All (λ (x : ElementValue). IsIdentity x.id x.ext) c.args.list.now (subst (All (λ (x : ElementValue). IsIdentity x.id x.ext)) whole c.elements.invariant.identities)
