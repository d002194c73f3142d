use Rattle.std.proofs.Common.{◌+◌, ◌<◌, Bool, true, false, ℕ, List, Option, length, take, get_or, ap, sym, subst, ◌∙◌, ◌≡◌, ◌||◌, arith, inl}
use Rattle.wl_elem.specs.Element.{ElementValue}
use Rattle.wl_inherit.specs.Identity.{of_identity, has_any, never_inherited}
use Rattle.wl_inherit.specs.Marks.{is_marked}
use Rattle.wl_inherit.specs.Shrunk.{same_elements}
use Rattle.wl_inherit.proofs.Inheriting.{is_same, HasPassed, seen_still, seen_more, passed_still, passed_more, met_already, differs, agrees}
use Rattle.wl_inherit.proofs.shrunk.inherited_of.Goals as goal
use Rattle.wl_inherit.proofs.shrunk.inherited_of.Goals.{then-has_same, else-has_same}

-- what a test told of an element's identity
told : (test : ℕ → Option ℕ → Bool) (e : ElementValue) (id : ℕ) (ext : Option ℕ) (answer : Bool) → id ≡ e.id → ext ≡ e.ext → test id ext ≡ answer → test e.id e.ext ≡ answer
told test e id ext answer a b h = ap (λ (n : ℕ). test n e.ext) (sym a) ∙ ap (test id) (sym b) ∙ h

pub elements-preserved-then-has : goal.elements-preserved-then-has
elements-preserved-then-has c =
    let outer = c.args.outer.now in
    let full = c.args.full.now in
    let i = c.elements.element-index in
    let e = c.element-item.result in
    let inside : i < length full = omega (arith, c.elements-test.true, ap length c.as_slice-element-items.ensures.value) in
    let at : e ≡ get_or full i e = c.element-item.is ∙ ap (λ (xs : List ElementValue). get_or xs i e) c.as_slice-element-items.ensures.value in
    let shape = c.id.ensures.is_element.shape in
    let met = told (is_marked c.elements.seen) e c.id.result c.ext.result true c.id.ensures.value c.ext.ensures.value (sym c.has.ensures ∙ c.if-has.true) in
    let so_far = c.elements.invariant in
    record {
      seen = seen_still full i e c.elements.seen inside at shape so_far.seen met;
      passed = passed_still (is_same outer full) full i e c.elements.inherited inside at so_far.passed (met_already outer full (take i full) e.id e.ext (sym (so_far.seen.marks e.id e.ext shape) ∙ met));
    }

pub elements-preserved : goal.elements-preserved
elements-preserved c =
    let outer = c.args.outer.now in
    let full = c.args.full.now in
    let i = c.elements.element-index in
    let e = c.element-item.result in
    let inside : i < length full = omega (arith, c.elements-test.true, ap length c.as_slice-element-items.ensures.value) in
    let at : e ≡ get_or full i e = c.element-item.is ∙ ap (λ (xs : List ElementValue). get_or xs i e) c.as_slice-element-items.ensures.value in
    let shape = c.id.ensures.is_element.shape in
    let so_far = c.elements.invariant in
    let new : (never_inherited e.id e.ext || has_any e.id e.ext (take i full)) ≡ false =
    sym (so_far.seen.marks e.id e.ext shape) ∙ told (is_marked c.elements.seen) e c.id.result c.ext.result false c.id.ensures.value c.ext.ensures.value (sym c.has.ensures ∙ c.if-has.false) in
    let same : same_elements (of_identity e.id e.ext outer) (of_identity e.id e.ext full) ≡ c.has_same.result =
    told (λ n x. same_elements (of_identity n x outer) (of_identity n x full)) e c.id-in-elements.result c.ext-in-elements.result c.has_same.result c.id-in-elements.ensures.value c.ext-in-elements.ensures.value (sym c.has_same.ensures) in
    record {
      seen = seen_more full i e c.elements.seen c.mark.new.self inside at so_far.seen c.mark.ensures.marks;
      passed = elim c.if-has_same.branch [
        | then-has_same w ↦
            subst (HasPassed (is_same outer full) (take (i + 1) full)) (sym w.inherited-is)
            (passed_more (is_same outer full) full i e c.elements.inherited w.mark-then-has_same.new.self inside at so_far.passed w.mark-then-has_same.ensures.marks (agrees outer full (take i full) e.id e.ext new (same ∙ w.if-has_same.true)))
        | else-has_same w ↦
            subst (HasPassed (is_same outer full) (take (i + 1) full)) (sym w.inherited-is)
            (passed_still (is_same outer full) full i e c.elements.inherited inside at so_far.passed (inl (differs outer full e.id e.ext (same ∙ w.if-has_same.false))))
      ];
    }
