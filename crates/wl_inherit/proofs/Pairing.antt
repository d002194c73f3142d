-- The elements of one identity in two lists, pair by pair.
use Rattle.std.proofs.Common.{◌≡◌, ℕ, zero, suc, ◌+◌, ◌-◌, ◌≤◌, ◌<◌, Bool, true, false, cond, not, ◌&&◌, eqb, List, [], ◌∷◌, length, drop, get_or, Option, Some, None, refl, sym, ap, subst, ◌∙◌, arith, inl, inr}
use Rattle.std.specs.Prelude.{is_some}
use Rattle.std.specs.Cmp.Lexicographic.{pointwise}
use Rattle.std.proofs.lemmas.Bool.{cases_lt, and_left, and_right, eqb-true, eq-eqb, and_parts, and_from, cases_Bool}
use Rattle.std.proofs.lemmas.List.{drop_more}
use Rattle.std.proofs.lemmas.Option.{slice_get-get_or, get_or_from_slice_get}
use Rattle.wl_elem.specs.Element.{ElementValue, HasIdentity}
use Rattle.wl_elem.specs.Finding.{IsAt, NoneBetween, IsFirst}
use Rattle.wl_inherit.specs.Identity.{same_ext, has_identity, of_identity}
use Rattle.wl_inherit.specs.Shrunk.{same_element, same_elements}
use Rattle.wl_inherit.specs.Identity.{has_any}
use Rattle.wl_inherit.proofs.Regaining.{not_empty, has_any_is}
use Rattle.wl_inherit.proofs.Filters.{same_ext-true, same_ext-same}

abbrev pub some_element : ElementValue
some_element = record { id = 0; ext = None; body = [] }

identity_from : (id : ℕ) (ext : Option ℕ) (e : ElementValue) → HasIdentity e id ext → has_identity id ext e ≡ true
identity_from id ext e is = and_from (eqb e.id id) (same_ext e.ext ext) (eq-eqb e.id id is.0) (ap (λ (x : Option ℕ). same_ext x ext) is.1 ∙ same_ext-same ext)

identity_to : (id : ℕ) (ext : Option ℕ) (e : ElementValue) → has_identity id ext e ≡ true → HasIdentity e id ext
identity_to id ext e is = let both = and_parts (eqb e.id id) (same_ext e.ext ext) is in (eqb-true e.id id both.0, same_ext-true e.ext ext both.1)

-- the elements of the identity from an index on, where that there has another
other_at : (list : List ElementValue) (id : ℕ) (ext : Option ℕ) (from : ℕ) → from < length list → (IsAt list id ext from → ⊥) → of_identity id ext (drop from list) ≡ of_identity id ext (drop (from + 1) list)
other_at list id ext from lt isnt =
    let e = get_or list from some_element in
    let not_it : has_identity id ext e ≡ false =
    elim (cases_Bool (has_identity id ext e)) [ inl is ↦ absurd (isnt (e, slice_get-get_or list from some_element lt, identity_to id ext e is)) | inr isnt_it ↦ isnt_it ] in
    ap (of_identity id ext) (drop_more list from some_element lt) ∙ ap (λ (b : Bool). cond b (e ∷ of_identity id ext (drop (from + 1) list)) (of_identity id ext (drop (from + 1) list))) not_it

skipped : (count : ℕ) (list : List ElementValue) (id : ℕ) (ext : Option ℕ) (from to : ℕ) → from + count ≡ to → to ≤ length list → NoneBetween list id ext from to → of_identity id ext (drop from list) ≡ of_identity id ext (drop to list)
skipped zero list id ext from to same le none = let e : from ≡ to = omega arith in ap (λ (n : ℕ). of_identity id ext (drop n list)) e
skipped (suc count) list id ext from to same le none =
    other_at list id ext from (omega arith) (none from (omega arith) (omega arith))
    ∙ skipped count list id ext (from + 1) to (omega arith) le (λ k low high. none k (omega arith) high)

pub found : (list : List ElementValue) (id : ℕ) (ext : Option ℕ) (from i : ℕ) → IsFirst list id ext from (Some i) → of_identity id ext (drop from list) ≡ get_or list i some_element ∷ of_identity id ext (drop (i + 1) list)
found list id ext from i (low, inside, at, none) =
    let count : from + (i - from) ≡ i = omega arith in
    let e = get_or list i some_element in
    let it : has_identity id ext e ≡ true =
    identity_from id ext e (subst (λ (x : ElementValue). HasIdentity x id ext) (sym (get_or_from_slice_get list i at.0 some_element at.1)) at.2) in
    skipped (i - from) list id ext from i count (omega arith) none ∙ ap (of_identity id ext) (drop_more list i some_element inside)
    ∙ ap (λ (b : Bool). cond b (e ∷ of_identity id ext (drop (i + 1) list)) (of_identity id ext (drop (i + 1) list))) it

pub found_has : (list : List ElementValue) (id : ℕ) (ext : Option ℕ) (from i : ℕ) → IsFirst list id ext from (Some i) → HasIdentity (get_or list i some_element) id ext
found_has list id ext from i (low, inside, at, none) = subst (λ (x : ElementValue). HasIdentity x id ext) (sym (get_or_from_slice_get list i at.0 some_element at.1)) at.2

past : (n : ℕ) (list : List ElementValue) → length list ≤ n → drop n list ≡ []
past zero [] le = refl
past zero (e ∷ list) le = absurd (omega arith)
past (suc n) [] le = refl
past (suc n) (e ∷ list) le = past n list (omega arith)

pub not_found : (list : List ElementValue) (id : ℕ) (ext : Option ℕ) (from : ℕ) → IsFirst list id ext from None → of_identity id ext (drop from list) ≡ []
not_found list id ext from none =
    elim (cases_lt from (length list)) [
      | inl below ↦ skipped (length list - from) list id ext from (length list) (omega arith) (omega arith) none ∙ ap (of_identity id ext) (past (length list) list (omega arith))
      | inr above ↦ ap (of_identity id ext) (past from list above)
    ]

-- ---- the lists compared

pub at_pair : (a b c d : List ElementValue) (total : Bool) → a ≡ c → b ≡ d → same_elements a b ≡ total → same_elements c d ≡ total
at_pair a b c d total e f h = sym (ap (λ (x : List ElementValue). same_elements x b) e ∙ ap (same_elements c) f) ∙ h

-- what the comparison of two bodies says of those of the lists
pub bodies_judged : (list xs other ys : List ElementValue) (i j : ℕ) (same expected : Bool) → xs ≡ list → ys ≡ other → ((d : ElementValue) → same ≡ pointwise eqb (get_or xs i d).body (get_or ys j d).body) → same ≡ expected
    → pointwise eqb (get_or list i some_element).body (get_or other j some_element).body ≡ expected
bodies_judged list xs other ys i j same expected one two judged is =
    ap (λ (l : List ElementValue). pointwise eqb (get_or l i some_element).body (get_or other j some_element).body) (sym one)
    ∙ ap (λ (l : List ElementValue). pointwise eqb (get_or xs i some_element).body (get_or l j some_element).body) (sym two) ∙ sym (judged some_element) ∙ is

pub other_bodies : (a b : ElementValue) (xs ys : List ElementValue) → pointwise eqb a.body b.body ≡ false → same_elements (a ∷ xs) (b ∷ ys) ≡ false
other_bodies a b xs ys e = and_left (same_element a b) (same_elements xs ys) (and_right (eqb a.id b.id && same_ext a.ext b.ext) (pointwise eqb a.body b.body) e)

pub same_bodies : (id : ℕ) (ext : Option ℕ) (a b : ElementValue) (xs ys : List ElementValue) → HasIdentity a id ext → HasIdentity b id ext → pointwise eqb a.body b.body ≡ true → same_elements (a ∷ xs) (b ∷ ys) ≡ same_elements xs ys
same_bodies id ext a b xs ys one two e =
    let ids : eqb a.id b.id ≡ true = eq-eqb a.id b.id (one.0 ∙ sym two.0) in
    let exts : same_ext a.ext b.ext ≡ true = ap (λ (x : Option ℕ). same_ext x b.ext) (one.1 ∙ sym two.1) ∙ same_ext-same b.ext in
    let all : same_element a b ≡ true = and_from (eqb a.id b.id && same_ext a.ext b.ext) (pointwise eqb a.body b.body) (and_from (eqb a.id b.id) (same_ext a.ext b.ext) ids exts) e in
    ap (λ (x : Bool). x && same_elements xs ys) all

pub none_left : (other : List ElementValue) (id : ℕ) (ext : Option ℕ) (from : ℕ) (o : Option ℕ) (none : Bool) → is_some o ≡ not none → IsFirst other id ext from o → none ≡ same_elements [] (of_identity id ext (drop from other))
none_left other id ext from None true e first = ap (same_elements []) (sym (not_found other id ext from first))
none_left other id ext from None false e first = absurd (cc e)
none_left other id ext from (Some i) true e first = absurd (cc e)
none_left other id ext from (Some i) false e first = ap (same_elements []) (sym (found other id ext from i first))

-- whether there is one at all
pub any_found : (list : List ElementValue) (id : ℕ) (ext : Option ℕ) (o : Option ℕ) (some : Bool) → is_some o ≡ some → IsFirst list id ext 0 o → some ≡ has_any id ext list
any_found list id ext None some e first = sym e ∙ sym (has_any_is id ext list ∙ ap not_empty (not_found list id ext 0 first))
any_found list id ext (Some i) some e first = sym e ∙ sym (has_any_is id ext list ∙ ap not_empty (found list id ext 0 i first))
