-- Profiles that pass their tests, one after the other.
use Rattle.std.proofs.Common.{◌≡◌, ℕ, Bool, false, ◌||◌, eqb, List, [], ◌∷◌, ◌++◌, Ok, refl, sym, ap, subst, ◌∙◌, inl, inr}
use Rattle.std.proofs.Math.Bool.{or-false}
use Rattle.std.proofs.lemmas.Bool.{cases_eq, eq-eqb, ne_eqb, or_parts}
use Rattle.std.proofs.lemmas.List.{map-append}
use Rattle.std.proofs.lemmas.List.Folds.{list_any-append}
use Rattle.wl_elem.specs.Element.{ElementValue}
use Rattle.wl_assoc.specs.declared.profiles.LinkEntry.{LinkEntry}
use Rattle.wl_assoc.specs.Profiles.{entry, ProfileAs, ProfileAt, links_in, is_among, AreDifferent, SaidBy, AllPass}

-- ---- links

eqb-sym : (a b : ℕ) → eqb a b ≡ eqb b a
eqb-sym a b =
    elim (cases_eq a b) [
      | inl same ↦ eq-eqb a b same ∙ sym (eq-eqb b a (sym same))
      | inr other ↦ ne_eqb a b other ∙ sym (ne_eqb b a (λ e. other (sym e)))
    ]

among_more : (k link : ℕ) (links : List ℕ) → is_among k (links ++ link ∷ []) ≡ (is_among k links || eqb link k)
among_more k link links = list_any-append (λ l. eqb l k) links (link ∷ []) ∙ ap (λ (b : Bool). is_among k links || b) (or-false (eqb link k))

different_more : (links : List ℕ) (link : ℕ) → is_among link links ≡ false → AreDifferent links → AreDifferent (links ++ link ∷ [])
different_more [] link new are = (refl, tt)
different_more (l ∷ links) link new are =
    let both = or_parts (eqb l link) (is_among link links) new in
    (among_more l link links ∙ ap (λ (b : Bool). b || eqb link l) are.0 ∙ eqb-sym link l ∙ both.0, different_more links link both.1 are.1)

-- a link isn't among those before it
new_behind : (front : List ℕ) (link : ℕ) (back : List ℕ) → AreDifferent (front ++ link ∷ back) → is_among link front ≡ false
new_behind [] link back are = refl
new_behind (l ∷ front) link back are =
    let later = or_parts (is_among l front) (eqb link l || is_among l back) (sym (list_any-append (λ x. eqb x l) front (link ∷ back)) ∙ are.0) in
    let apart : eqb l link ≡ false = eqb-sym l link ∙ (or_parts (eqb link l) (is_among l back) later.1).0 in
    ap (λ (b : Bool). b || is_among link front) apart ∙ new_behind front link back are.1

abbrev link_of : ProfileAt → ℕ
link_of x = x.profile.link

pub links-append : (front back : List ProfileAt) → links_in (front ++ back) ≡ links_in front ++ links_in back
links-append front back = map-append link_of front back

pub links_more : (k : ℕ) (profiles : List ProfileAt) (x : ProfileAt) → is_among k (links_in (profiles ++ x ∷ [])) ≡ (is_among k (links_in profiles) || eqb x.profile.link k)
links_more k profiles x = ap (is_among k) (links-append profiles (x ∷ [])) ∙ among_more k x.profile.link (links_in profiles)

-- ---- one profile more

said_more : (response : Bool) (outer : List ElementValue) (profiles : List ProfileAt) (entries : List LinkEntry) (x : ProfileAt) (e : LinkEntry) → SaidBy response outer profiles entries
    → ProfileAs response outer x.profile (Ok e.elements) → e ≡ entry response x.profile e.elements → SaidBy response outer (profiles ++ x ∷ []) (entries ++ e ∷ [])
said_more response outer [] [] x e said says is = (says, is, tt)
said_more response outer [] (f ∷ entries) x e said says is = absurd said
said_more response outer (y ∷ profiles) [] x e said says is = absurd said
said_more response outer (y ∷ profiles) (f ∷ entries) x e (one, same, more) says is = (one, same, said_more response outer profiles entries x e more says is)

pub pass_more : (response : Bool) (outer : List ElementValue) (profiles : List ProfileAt) (entries : List LinkEntry) (x : ProfileAt) (e : LinkEntry) → AllPass response outer profiles entries → is_among x.profile.link (links_in profiles) ≡ false
    → ProfileAs response outer x.profile (Ok e.elements) → e ≡ entry response x.profile e.elements → AllPass response outer (profiles ++ x ∷ []) (entries ++ e ∷ [])
pass_more response outer profiles entries x e passed new says is = record {
  each = said_more response outer profiles entries x e passed.each says is;
  different = subst AreDifferent (sym (links-append profiles (x ∷ []))) (different_more (links_in profiles) x.profile.link new passed.different);
}

-- ---- a profile among those that pass

pub said_behind : (response : Bool) (outer : List ElementValue) (earlier : List ProfileAt) (x : ProfileAt) (later : List ProfileAt) (entries : List LinkEntry) → SaidBy response outer (earlier ++ x ∷ later) entries
    → (list : List ElementValue) × ProfileAs response outer x.profile (Ok list)
said_behind response outer [] x later [] said = absurd said
said_behind response outer [] x later (e ∷ entries) (says, is, more) = (e.elements, says)
said_behind response outer (y ∷ earlier) x later [] said = absurd said
said_behind response outer (y ∷ earlier) x later (e ∷ entries) (says, is, more) = said_behind response outer earlier x later entries more

pub pass_new : (response : Bool) (outer : List ElementValue) (earlier : List ProfileAt) (x : ProfileAt) (later : List ProfileAt) (entries : List LinkEntry) → AllPass response outer (earlier ++ x ∷ later) entries → is_among x.profile.link (links_in earlier) ≡ false
pass_new response outer earlier x later entries passed = new_behind (links_in earlier) x.profile.link (links_in later) (subst AreDifferent (links-append earlier (x ∷ later)) passed.different)
