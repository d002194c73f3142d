-- What was shrunk is expanded to the full list, identity by identity.
use Rattle.std.proofs.Common.{◌≡◌, ℕ, ◌≤◌, ◌<◌, Bool, true, false, cond, not, ◌&&◌, ◌||◌, eqb, List, [], ◌∷◌, ◌++◌, length, get_or, Option, Some, None, Ok, refl, sym, ap, subst, ◌∙◌, arith, inl, inr}
use Rattle.std.specs.Prelude.{filter}
use Rattle.std.specs.List.{list_any, AllByRecursion, range_with_len}
use Rattle.std.specs.Cmp.Lexicographic.{pointwise}
use Rattle.std.proofs.lemmas.Bool.{and_right, eqb-true, eq-eqb, and_parts, or_parts, cases_Bool}
use Rattle.std.proofs.lemmas.Slice.Eq.{bytes_eq-Decides}
use Rattle.std.proofs.lemmas.List.{append-nil}
use Rattle.std.proofs.lemmas.List.Elements.{filter-append}
use Rattle.std.proofs.lemmas.List.Folds.{list_any_at}
use Rattle.std.proofs.lemmas.List.FromFn.{length-range_with_len, get_or-range_with_len}
use Rattle.wl_elem.specs.Element.{ElementValue}
use Rattle.wl_inherit.specs.declared.non_inheritance.NonInheritance.{NonInheritance}
use Rattle.wl_inherit.specs.NonInheritance.{spelling}
use Rattle.wl_inherit.specs.Identity.{same_ext, has_identity, of_identity, has_any, is_non, never_inherited, IsIdentity}
use Rattle.wl_inherit.specs.Inheritance.{lists, is_listed, expanded, Nons}
use Rattle.wl_inherit.specs.Shrunk.{same_element, same_elements, is_kept, is_dropped, octet_values, dropped_ids, dropped_exts, dropped_count, exclusion, shrunk, IsRegained}
use Rattle.std.proofs.Math.Bool.{or-false, and-true}
use Rattle.wl_inherit.proofs.Filters.{same_ext-true, filter_within, none_of}
use Rattle.wl_inherit.proofs.LeavingOut.{Nons-append}
use Rattle.wl_inherit.proofs.Expansion.{one_expansion, at_identity_expected, no_non}

-- ---- lists of one identity

abbrev pub not_empty : List ElementValue → Bool
not_empty [] = false
not_empty (e ∷ list) = true

pub has_any_is : (id : ℕ) (ext : Option ℕ) (list : List ElementValue) → has_any id ext list ≡ not_empty (of_identity id ext list)
has_any_is id ext [] = refl
has_any_is id ext (e ∷ list) = by (has_identity id ext e) (of_identity id ext list) (has_any_is id ext list)
  where
    by : (b : Bool) (xs : List ElementValue) → has_any id ext list ≡ not_empty xs → (b || has_any id ext list) ≡ not_empty (cond b (e ∷ xs) xs)
    by true xs h = refl
    by false xs h = h

-- two lists are the same
one_element : (a b : ElementValue) → same_element a b ≡ true → a ≡ b
one_element a b h =
    let front = and_parts (eqb a.id b.id && same_ext a.ext b.ext) (pointwise eqb a.body b.body) h in
    let both = and_parts (eqb a.id b.id) (same_ext a.ext b.ext) front.0 in
    let ids = eqb-true a.id b.id both.0 in
    let exts = same_ext-true a.ext b.ext both.1 in
    let bodies = (bytes_eq-Decides a.body b.body).0 front.1 in
    λ i. record { id = ids i; ext = exts i; body = bodies i }

pub one_list : (a b : List ElementValue) → same_elements a b ≡ true → a ≡ b
one_list [] [] h = refl
one_list [] (y ∷ b) h = absurd (cc h)
one_list (x ∷ a) [] h = absurd (cc h)
one_list (x ∷ a) (y ∷ b) h =
    let both = and_parts (same_element x y) (same_elements a b) h in
    ap (λ (e : ElementValue). e ∷ a) (one_element x y both.0) ∙ ap (λ (l : List ElementValue). y ∷ l) (one_list a b both.1)

-- ---- what the exclusion lists

any_cond : (b : Bool) (x n : ℕ) (xs : List ℕ) → list_any (λ x. eqb x n) (cond b (x ∷ xs) xs) ≡ cond b (eqb x n || list_any (λ x. eqb x n) xs) (list_any (λ x. eqb x n) xs)
any_cond true x n xs = refl
any_cond false x n xs = refl

any_step : (b same passes more : Bool) → (same ≡ true → b ≡ passes) → cond b (same || (passes && more)) (passes && more) ≡ (passes && (same || more))
any_step true true passes more e = e refl ∙ sym (and-true passes)
any_step true false passes more e = refl
any_step false true true more e = absurd (cc (e refl))
any_step false true false more e = refl
any_step false false passes more e = refl

any_in_filter : (p : ℕ → Bool) (n : ℕ) (xs : List ℕ) → list_any (λ x. eqb x n) (filter p xs) ≡ (p n && list_any (λ x. eqb x n) xs)
any_in_filter p n [] = by (p n)
  where
    by : (b : Bool) → false ≡ (b && false)
    by true = refl
    by false = refl
any_in_filter p n (x ∷ xs) =
    any_cond (p x) x n (filter p xs) ∙ ap (λ (b : Bool). cond (p x) (eqb x n || b) b) (any_in_filter p n xs) ∙ any_step (p x) (eqb x n) (p n) (list_any (λ x. eqb x n) xs) (λ e. ap p (eqb-true x n e))

has_octet : (n : ℕ) → n < 256 → list_any (λ x. eqb x n) octet_values ≡ true
unfolding octet_values
has_octet n lt =
    let inside : n < length (range_with_len 0 256) = omega (arith, length-range_with_len 0 256) in
    let at : get_or (range_with_len 0 256) n 0 ≡ n = omega (arith, get_or-range_with_len 0 256 n 0 lt) in
    list_any_at (λ x. eqb x n) (range_with_len 0 256) n 0 inside (eq-eqb _ n at)

abbrev value_of : List ElementValue → List ElementValue → NonInheritance
value_of outer full = record { ids = dropped_ids outer full; exts = dropped_exts outer full; tail = [] }

lists_dropped : (outer full : List ElementValue) (id : ℕ) (ext : Option ℕ) → IsIdentity id ext → lists (value_of outer full) id ext ≡ is_dropped outer full id ext
lists_dropped outer full id None is =
    any_in_filter (λ id. is_dropped outer full id None) id octet_values ∙ ap (λ (b : Bool). is_dropped outer full id None && b) (has_octet id is.small) ∙ and-true (is_dropped outer full id None)
lists_dropped outer full id (Some ext) is =
    any_in_filter (λ ext. is_dropped outer full 255 (Some ext)) ext octet_values ∙ ap (λ (b : Bool). is_dropped outer full 255 (Some ext) && b) (has_octet ext is.small_ext) ∙ and-true (is_dropped outer full 255 (Some ext))
    ∙ ap (λ (n : ℕ). is_dropped outer full n (Some ext)) (sym (eqb-true id 255 is.shape))

-- the values of the exclusion
abbrev nons_of : List ℕ → List ℕ → List NonInheritance
nons_of [] [] = []
nons_of ids exts = record { ids = ids; exts = exts; tail = [] } ∷ []

listed_all : (ids exts : List ℕ) (id : ℕ) (ext : Option ℕ) → is_listed (nons_of ids exts) id ext ≡ lists (record { ids = ids; exts = exts; tail = [] }) id ext
listed_all [] [] id None = refl
listed_all [] [] id (Some x) = refl
listed_all [] (y ∷ exts) id ext = or-false _
listed_all (y ∷ ids) exts id ext = or-false _

are_nons : (ids exts : List ℕ) → length ids ≤ 255 → length exts ≤ 255 → Nons (exclusion ids exts) (nons_of ids exts)
are_nons [] [] le more = refl
are_nons [] (y ∷ exts) le more = inl (refl, record { ids = []; exts = y ∷ exts; tail = [] }, [], record { is_value = record { ids = le; exts = more }; text = refl }, refl, refl)
are_nons (y ∷ ids) exts le more = inl (refl, record { ids = y ∷ ids; exts = exts; tail = [] }, [], record { is_value = record { ids = le; exts = more }; text = refl }, refl, refl)

not_there : (id : ℕ) (ext : Option ℕ) → is_non id ext ≡ false → (eqb 255 id && same_ext (Some 56) ext) ≡ false
not_there id ext isnt = by (eqb 255 id) (same_ext (Some 56) ext) refl refl
  where
    by : (a b : Bool) → eqb 255 id ≡ a → same_ext (Some 56) ext ≡ b → (a && b) ≡ false
    by true true e f =
        let one : 255 ≡ id = eqb-true 255 id e in
        let two : Some 56 ≡ ext = same_ext-true (Some 56) ext f in
        let is : is_non id ext ≡ true = ap (λ (n : ℕ). is_non n ext) (sym one) ∙ ap (λ (x : Option ℕ). is_non 255 x) (sym two) in
        absurd (cc (is, isnt))
    by true false e f = refl
    by false b e f = refl

no_other : (ids exts : List ℕ) (id : ℕ) (ext : Option ℕ) → is_non id ext ≡ false → of_identity id ext (exclusion ids exts) ≡ []
no_other [] [] id ext isnt = refl
no_other [] (y ∷ exts) id ext isnt = ap (λ (b : Bool). cond b (record { id = 255; ext = Some 56; body = spelling (record { ids = []; exts = y ∷ exts; tail = [] }) } ∷ []) []) (not_there id ext isnt)
no_other (y ∷ ids) exts id ext isnt = ap (λ (b : Bool). cond b (record { id = 255; ext = Some 56; body = spelling (record { ids = y ∷ ids; exts = exts; tail = [] }) } ∷ []) []) (not_there id ext isnt)

-- ---- the values of the shrunk list

none_of_filter : (q : ElementValue → Bool) (list : List ElementValue) → has_any 255 (Some 56) list ≡ false → Nons (filter q list) []
none_of_filter q [] none = refl
none_of_filter q (e ∷ list) none =
    let both = or_parts (has_identity 255 (Some 56) e) (has_any 255 (Some 56) list) none in
    by (q e) both.0 (none_of_filter q list both.1)
  where
    by : (b : Bool) → is_non e.id e.ext ≡ false → Nons (filter q list) [] → Nons (cond b (e ∷ filter q list) (filter q list)) []
    by true isnt h = inr (isnt, h)
    by false isnt h = h

abbrev nons : List ElementValue → List ElementValue → List NonInheritance
nons outer full = nons_of (dropped_ids outer full) (dropped_exts outer full)

are : (outer full : List ElementValue) → has_any 255 (Some 56) full ≡ false → dropped_count outer full ≤ 252 → Nons (shrunk outer full) (nons outer full)
are outer full none few =
    Nons-append (filter (is_kept outer full) full) (exclusion (dropped_ids outer full) (dropped_exts outer full)) [] (nons outer full)
    (none_of_filter (is_kept outer full) full none) (are_nons (dropped_ids outer full) (dropped_exts outer full) (omega arith) (omega arith))

-- ---- one identity

abbrev pub AreIdentities : List ElementValue → Type 0
AreIdentities list = AllByRecursion (λ e. IsIdentity e.id e.ext) list

pub an_identity : (id : ℕ) (ext : Option ℕ) (list : List ElementValue) → AreIdentities list → has_any id ext list ≡ true → IsIdentity id ext
an_identity id ext [] all h = absurd (cc h)
an_identity id ext (e ∷ list) all h = by (has_identity id ext e) refl h (an_identity id ext list all.1)
  where
    by : (b : Bool) → has_identity id ext e ≡ b → (b || has_any id ext list) ≡ true → (has_any id ext list ≡ true → IsIdentity id ext) → IsIdentity id ext
    by true is h more =
        let both = and_parts (eqb e.id id) (same_ext e.ext ext) is in
        subst (λ (n : ℕ). IsIdentity n ext) (eqb-true e.id id both.0) (subst (λ (x : Option ℕ). IsIdentity e.id x) (same_ext-true e.ext ext both.1) all.0)
    by false isnt h more = more h

nothing : (b : Bool) → cond b (of_identity 0 None []) (of_identity 0 None []) ≡ of_identity 0 None []
nothing true = refl
nothing false = refl

unchanged : (listed : Bool) (outer full : List ElementValue) → outer ≡ full → (not_empty outer ≡ true → listed ≡ (not_empty outer && true && not (not_empty full))) → cond listed [] outer ≡ full
unchanged listed outer [] e is = ap (λ (x : List ElementValue). cond listed [] x) e ∙ nothing listed
unchanged listed outer (x ∷ full) e is = ap (λ (b : Bool). cond b [] outer) (is (ap not_empty e) ∙ and_right (not_empty outer && true) false refl) ∙ e

by_case : (never same listed : Bool) (outer full : List ElementValue) → (same ≡ true → outer ≡ full) → (not_empty outer ≡ true → listed ≡ (not_empty outer && not never && not (not_empty full)))
    → cond (not_empty (cond (never || not same) full [])) (cond (never || not same) full []) (cond (never || listed) [] outer) ≡ full
by_case true same listed outer [] one is = refl
by_case true same listed outer (e ∷ full) one is = refl
by_case false false listed outer (e ∷ full) one is = refl
by_case false false listed [] [] one is = nothing listed
by_case false false listed (e ∷ outer) [] one is = ap (λ (b : Bool). cond b [] (e ∷ outer)) (is refl)
by_case false true listed outer full one is = unchanged listed outer full (one refl) is

module _ (outer full : List ElementValue) (id : ℕ) (ext : Option ℕ) where
  carried : is_non id ext ≡ false → of_identity id ext (shrunk outer full) ≡ cond (never_inherited id ext || not (same_elements (of_identity id ext outer) (of_identity id ext full))) (of_identity id ext full) []
  carried isnt =
      filter-append (has_identity id ext) (filter (is_kept outer full) full) (exclusion (dropped_ids outer full) (dropped_exts outer full))
      ∙ ap (λ (x : List ElementValue). of_identity id ext (filter (is_kept outer full) full) ++ x) (no_other (dropped_ids outer full) (dropped_exts outer full) id ext isnt)
      ∙ append-nil (of_identity id ext (filter (is_kept outer full) full))
      ∙ filter_within (λ i x. never_inherited i x || not (same_elements (of_identity i x outer) (of_identity i x full))) id ext full

  listed_here : AreIdentities outer → not_empty (of_identity id ext outer) ≡ true
      → is_listed (nons outer full) id ext ≡ (not_empty (of_identity id ext outer) && not (never_inherited id ext) && not (not_empty (of_identity id ext full)))
  listed_here all there =
      listed_all (dropped_ids outer full) (dropped_exts outer full) id ext
      ∙ lists_dropped outer full id ext (an_identity id ext outer all (has_any_is id ext outer ∙ there))
      ∙ ap (λ (b : Bool). b && not (never_inherited id ext) && not (has_any id ext full)) (has_any_is id ext outer)
      ∙ ap (λ (b : Bool). not_empty (of_identity id ext outer) && not (never_inherited id ext) && not b) (has_any_is id ext full)

  same_other : AreIdentities outer → is_non id ext ≡ false → of_identity id ext (expanded (nons outer full) outer (shrunk outer full)) ≡ of_identity id ext full
  same_other all isnt =
      let parts = carried isnt in
      at_identity_expected (nons outer full) outer (shrunk outer full) id ext isnt
      ∙ ap (λ (b : Bool). cond b (of_identity id ext (shrunk outer full)) (cond (never_inherited id ext || is_listed (nons outer full) id ext) [] (of_identity id ext outer))) (has_any_is id ext (shrunk outer full))
      ∙ ap (λ (x : List ElementValue). cond (not_empty x) x (cond (never_inherited id ext || is_listed (nons outer full) id ext) [] (of_identity id ext outer))) parts
      ∙ by_case (never_inherited id ext) (same_elements (of_identity id ext outer) (of_identity id ext full)) (is_listed (nons outer full) id ext) (of_identity id ext outer) (of_identity id ext full)
      (one_list (of_identity id ext outer) (of_identity id ext full)) (listed_here all)

  same_non : has_any 255 (Some 56) full ≡ false → is_non id ext ≡ true → of_identity id ext (expanded (nons outer full) outer (shrunk outer full)) ≡ of_identity id ext full
  same_non none is =
      let both = and_parts (eqb id 255) (same_ext ext (Some 56)) is in
      let at : of_identity 255 (Some 56) (expanded (nons outer full) outer (shrunk outer full)) ≡ of_identity 255 (Some 56) full =
      no_non (nons outer full) outer (shrunk outer full) ∙ sym (none_of 255 (Some 56) full none) in
      subst (λ (n : ℕ). of_identity n ext (expanded (nons outer full) outer (shrunk outer full)) ≡ of_identity n ext full) (sym (eqb-true id 255 both.0))
      (subst (λ (x : Option ℕ). of_identity 255 x (expanded (nons outer full) outer (shrunk outer full)) ≡ of_identity 255 x full) (sym (same_ext-true ext (Some 56) both.1)) at)

  same_here : AreIdentities outer → has_any 255 (Some 56) full ≡ false → of_identity id ext (expanded (nons outer full) outer (shrunk outer full)) ≡ of_identity id ext full
  same_here all none =
      elim (cases_Bool (is_non id ext)) [
        | inl is ↦ same_non none is
        | inr isnt ↦ same_other all isnt
      ]

pub is_regained : (outer full : List ElementValue) → AreIdentities outer → has_any 255 (Some 56) full ≡ false → dropped_count outer full ≤ 252 → IsRegained outer full (shrunk outer full)
is_regained outer full all none few = record {
  again = expanded (nons outer full) outer (shrunk outer full);
  reads = (nons outer full, are outer full none few, refl);
  only = λ reading h. one_expansion outer (shrunk outer full) reading (Ok (expanded (nons outer full) outer (shrunk outer full))) h (nons outer full, are outer full none few, refl);
  same = λ id ext. same_here outer full id ext all none;
}
