-- The one element that passes a test.
use Rattle.std.proofs.Common.{◌≡◌, ℕ, zero, suc, ◌+◌, ◌<◌, ◌≤◌, Bool, true, false, cond, List, [], ◌∷◌, length, get_or, Some, None, refl, sym, ap, subst, ◌∙◌, arith}
use Rattle.std.specs.Prelude.{count_by, slice_get, nat_lt}
use Rattle.std.specs.List.{position, position_or_len, AllByRecursion}
use Rattle.std.proofs.lemmas.List.Quantifiers.{position-Some}
use Rattle.std.proofs.lemmas.List.Sums.{sum_by-cons, fails_before_first}
use Rattle.std.proofs.lemmas.Option.{slice_get_read, slice_get_within, get_or_from_slice_get}
use Rattle.std.proofs.lemmas.Bool.{ltb-false}
use Rattle.wl_elem.specs.Element.{ElementValue}
use Rattle.wl_assoc.specs.Profiles.{is_basic, IsOnlyBasic}

-- ---- as it is found

pub found_is : (list : List ElementValue) (i : ℕ) (e : ElementValue) → count_by is_basic list ≡ 1 → position is_basic list ≡ Some i → e ≡ get_or list i e → IsOnlyBasic list i e
found_is list i e counted at same =
    let found = position-Some is_basic list i e at in
    record { counted = counted; there = slice_get_read list (length list) i e refl found.0 same; basic = ap is_basic same ∙ found.1 }

at_first : {X : Type 0} (p : X → Bool) (x : X) (xs : List X) (b : Bool) → p x ≡ b → count_by p (x ∷ xs) ≡ cond b 1 0 + count_by p xs
at_first p x xs b e = sum_by-cons (λ y. cond (p y) 1 0) x xs ∙ ap (λ (v : Bool). cond v 1 0 + count_by p xs) e

-- an element that passes is counted
pub is_counted : {X : Type 0} (p : X → Bool) (xs : List X) (i : ℕ) (x : X) → slice_get xs i ≡ Some x → p x ≡ true → 1 ≤ count_by p xs
is_counted p [] i x there is = absurd (cc there)
is_counted p (y ∷ ys) zero x there is =
    let same : y ≡ x = cc in
    omega (arith, at_first p y ys true (ap p same ∙ is))
is_counted p (y ∷ ys) (suc i) x there is = omega (arith, at_first p y ys (p y) refl, is_counted p ys i x there is)

one_index : {X : Type 0} (p : X → Bool) (xs : List X) (i j : ℕ) (x y : X) → count_by p xs ≡ 1 → slice_get xs i ≡ Some x → p x ≡ true → slice_get xs j ≡ Some y → p y ≡ true → i ≡ j
one_index p [] i j x y counted there is here also = absurd (cc there)
one_index p (z ∷ zs) zero zero x y counted there is here also = refl
one_index p (z ∷ zs) zero (suc j) x y counted there is here also =
    let same : z ≡ x = cc in
    absurd (omega (arith, counted, at_first p z zs true (ap p same ∙ is), is_counted p zs j y here also))
one_index p (z ∷ zs) (suc i) zero x y counted there is here also =
    let same : z ≡ y = cc in
    absurd (omega (arith, counted, at_first p z zs true (ap p same ∙ also), is_counted p zs i x there is))
one_index p (z ∷ zs) (suc i) (suc j) x y counted there is here also =
    ap suc (one_index p zs i j x y (omega (arith, counted, at_first p z zs (p z) refl, is_counted p zs i x there is)) there is here also)

pub one_basic : (list : List ElementValue) (i j : ℕ) (e f : ElementValue) → IsOnlyBasic list i e → IsOnlyBasic list j f → (i ≡ j) × (e ≡ f)
one_basic list i j e f a b =
    let same : i ≡ j = one_index is_basic list i j e f a.counted a.there a.basic b.there b.basic in
    let found : Some e ≡ Some f = sym a.there ∙ ap (slice_get list) same ∙ b.there in
    let element : e ≡ f = cc in
    (same, element)

-- ---- there is one

record IsFound (p : ElementValue → Bool) (xs : List ElementValue) (i : ℕ) (x : ElementValue) : Type 0 where
  pub there : slice_get xs i ≡ Some x
  pub passes : p x ≡ true

some_by : (p : ElementValue → Bool) (y : ElementValue) (ys : List ElementValue) (b : Bool) → p y ≡ b → count_by p (y ∷ ys) ≡ 1
    → (count_by p ys ≡ 1 → (i : ℕ) × (x : ElementValue) × IsFound p ys i x) → (i : ℕ) × (x : ElementValue) × IsFound p (y ∷ ys) i x
some_by p y ys true e counted more = (0, y, record { there = refl; passes = e })
some_by p y ys false e counted more =
    let rest = more (omega (arith, counted, at_first p y ys false e)) in
    (suc rest.0, rest.1, record { there = rest.2.there; passes = rest.2.passes })

some : (p : ElementValue → Bool) (xs : List ElementValue) → count_by p xs ≡ 1 → (i : ℕ) × (x : ElementValue) × IsFound p xs i x
some p [] counted = absurd (omega (arith, counted))
some p (y ∷ ys) counted = some_by p y ys (p y) refl counted (some p ys)

pub some_basic : (list : List ElementValue) → count_by is_basic list ≡ 1 → (i : ℕ) × (e : ElementValue) × IsOnlyBasic list i e
some_basic list counted = let found = some is_basic list counted in (found.0, found.1, record { counted = counted; there = found.2.there; basic = found.2.passes })

-- where there is one, it is found

passed : (list : List ElementValue) (n i : ℕ) (e : ElementValue) → IsOnlyBasic list i e → position_or_len is_basic list ≡ n → length list ≤ n → ⊥
passed list n i e only at past =
    let within : i < length list = slice_get_within list i e only.there in
    let none = fails_before_first is_basic list i e (omega (arith, at)) in
    absurd (cc (none, ap is_basic (get_or_from_slice_get list i e e only.there), only.basic))

past : (n len : ℕ) (b : Bool) → nat_lt n len ≡ b → cond b (Some n) None ≡ None → len ≤ n
past n len true e none = absurd (cc none)
past n len false e none = ltb-false n len e

pub none_is : (list : List ElementValue) → position is_basic list ≡ None → count_by is_basic list ≡ 1 → ⊥
none_is list none counted =
    let found = some_basic list counted in
    passed list (position_or_len is_basic list) found.0 found.1 found.2 refl (past (position_or_len is_basic list) (length list) (nat_lt (position_or_len is_basic list) (length list)) refl none)

-- what holds of each element holds of that at an index
pub at_index : (P : ElementValue → Type 0) (list : List ElementValue) (i : ℕ) (e : ElementValue) → AllByRecursion P list → slice_get list i ≡ Some e → P e
at_index P [] i e all there = absurd (cc there)
at_index P (x ∷ xs) zero e all there = let same : x ≡ e = cc in subst P same all.0
at_index P (x ∷ xs) (suc i) e all there = at_index P xs i e all.1 there
