use Rattle.std.proofs.Common.{◌≡◌, ◌+◌, ℕ, List, Some, Option, length, get_or, sym, ap, subst, ◌∙◌, arith, inl, inr}
use Rattle.std.specs.Prelude.{slice_get}
use Rattle.std.proofs.lemmas.Bool.{cases_lt}
use Rattle.std.proofs.lemmas.Option.{get_or_from_slice_get}
use Rattle.wl_elem.specs.Element.{ElementValue, HasIdentity}
use Rattle.wl_elem.specs.Finding.{NoneBetween}
use Rattle.wl_elem.proofs.elements.find.Goals as goal

-- what stands at an index
at_index : (list : List ElementValue) (i : ℕ) (e other : ElementValue) → e ≡ get_or list i e → slice_get list i ≡ Some other → e ≡ other
at_index list i e other is found = is ∙ get_or_from_slice_get list i other e found

-- one index more
one_more : (list : List ElementValue) (id : ℕ) (ext : Option ℕ) (from i : ℕ) (e : ElementValue) → NoneBetween list id ext from i → e ≡ get_or list i e → (HasIdentity e id ext → ⊥) → NoneBetween list id ext from (i + 1)
one_more list id ext from i e none is isnt k low high (other, found, same) =
    elim (cases_lt k i) [
      | inl below ↦ none k low below (other, found, same)
      | inr above ↦
          let at_i : k ≡ i = omega arith in
          let one : e ≡ other = at_index list i e other is (ap (slice_get list) (sym at_i) ∙ found) in
          isnt (subst (λ (x : ElementValue). HasIdentity x id ext) (sym one) same)
    ]

pub loop-i-preserved : goal.loop-i-preserved
loop-i-preserved c =
    one_more c.args.list.now c.args.id c.args.ext c.args.from c.loop-i.i c.index-elements-i.result c.loop-i.invariant (c.index-elements-i.is ∙ ap (λ (xs : List ElementValue). get_or xs c.loop-i.i c.index-elements-i.result) c.as_slice-elements.ensures.value) (λ h. absurd (cc (c.has_identity.ensures.1 h, c.if-has_identity.false)))

pub returns : goal.returns
returns c k low high = c.loop-i.invariant k low (omega (arith, high, c.loop-i-test.false, ap length c.as_slice-elements.ensures.value))
