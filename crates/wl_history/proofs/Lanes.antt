-- What nine lists hold of each lane, after one lane's list changes.
use Rattle.std.proofs.Common.{◌≡◌, ℕ, zero, suc, ◌<◌, Bool, true, false, eq-eqb, List, [], ◌∷◌, Some, length, get_or, refl, sym, ap, subst, ◌∙◌, arith, inl, inr}
use Rattle.std.specs.Prelude.{◌⊎◌, ◌==◌, nat_lt, if◌then◌else◌, slice_set}
use Rattle.std.specs.List.{AllByRecursion, Contains}
use Rattle.std.proofs.lemmas.Bool.{eqb-true, ne_eqb, both_ways, cases_Bool}
use Rattle.std.proofs.lemmas.List.{get_or-set_same, get_or-set_other}
use Rattle.wl_elem.specs.declared.lane.Lane.{Lane}
use Rattle.wl_elem.specs.Lanes.{lane_index, at_place}
use Rattle.wl_number.specs.declared.numbers.Numbers.{Numbers}
use Rattle.wl_number.specs.OrderRule.{Ascending, Precedes, list_at, list_of, entered_in, with_booking}
use Rattle.wl_history.specs.Answers.{at_position}

-- what stands at another place, or the same, after a list is set
pub set_at : {A : Type 0} (xs : List A) (i j : ℕ) (x d : A) → i < length xs → get_or (slice_set xs i x) j d ≡ (if i == j then x else get_or xs j d)
set_at xs i j x d lt =
    elim (cases_Bool (i == j)) [
      | inl is ↦
          let same : i ≡ j = eqb-true i j is in
          rw is (subst (λ (k : ℕ). get_or (slice_set xs i x) k d ≡ x) same (get_or-set_same xs i x d lt))
      | inr isnt ↦ rw isnt (get_or-set_other xs i j x d (λ e. both_ways (i == j) isnt (eq-eqb i j (sym e))))
    ]

-- the list of each place with a booking more
pub list_with : (lanes : List (List Numbers)) (lane : Lane) (l : ℕ) (n : Numbers) → lane_index lane < length lanes
    → list_at (with_booking lanes lane n) l ≡ (if at_place lane l then entered_in n (list_of lanes lane) else list_at lanes l)
list_with lanes lane l n lt = set_at lanes (lane_index lane) l (entered_in n (list_of lanes lane)) [] lt

-- the list of a lane is that at its place
pub same_list : (lanes : List (List Numbers)) (lane : Lane) (l : ℕ) → at_place lane l ≡ true → list_of lanes lane ≡ list_at lanes l
same_list lanes lane l same = ap (list_at lanes) (eqb-true (lane_index lane) l same)

-- ---- members

pub here : {A : Type 0} (x : A) (xs : List A) → Contains (x ∷ xs) x
here x xs = (0, omega arith, refl)

pub there : {A : Type 0} (y : A) (xs : List A) (x : A) → Contains xs x → Contains (y ∷ xs) x
there y xs x (k, lt, is) = (suc k, omega arith, is)

pub member_cases : {A : Type 0} (y : A) (xs : List A) (x : A) → Contains (y ∷ xs) x → (x ≡ y) ⊎ Contains xs x
member_cases y xs x (zero, lt, is) = inl (sym is)
member_cases y xs x (suc k, lt, is) = inr (k, omega arith, is)

pub no_member : {A : Type 0} (x : A) → Contains [] x → ⊥
no_member x (k, lt, is) = omega arith

-- ---- an entry more

pub entered_is_there : (n : Numbers) (ns : List Numbers) → Contains (entered_in n ns) n
entered_is_there n [] = here n []
entered_is_there n (x ∷ xs) =
    elim (nat_lt x.pos n.pos) as (λ (b : Bool). Contains (if b then x ∷ entered_in n xs else n ∷ x ∷ xs) n) [
      | true ↦ there x (entered_in n xs) n (entered_is_there n xs)
      | false ↦ here n (x ∷ xs)
    ]

pub others_are_there : (n : Numbers) (ns : List Numbers) (m : Numbers) → Contains ns m → Contains (entered_in n ns) m
others_are_there n [] m is = absurd (no_member m is)
others_are_there n (x ∷ xs) m is =
    elim (nat_lt x.pos n.pos) as (λ (b : Bool). Contains (if b then x ∷ entered_in n xs else n ∷ x ∷ xs) m) [
      | true ↦ elim (member_cases x xs m is) [
        | inl same ↦ subst (λ (y : Numbers). Contains (x ∷ entered_in n xs) y) (sym same) (here x (entered_in n xs))
        | inr more ↦ there x (entered_in n xs) m (others_are_there n xs m more)
      ]
      | false ↦ there n (x ∷ xs) m is
    ]

pub entered_cases : (n : Numbers) (ns : List Numbers) (m : Numbers) → Contains (entered_in n ns) m → (m ≡ n) ⊎ Contains ns m
entered_cases n [] m = λ is. elim (member_cases n [] m is) [ inl same ↦ inl same | inr more ↦ absurd (no_member m more) ]
entered_cases n (x ∷ xs) m =
    elim (nat_lt x.pos n.pos) as (λ (b : Bool). Contains (if b then x ∷ entered_in n xs else n ∷ x ∷ xs) m → (m ≡ n) ⊎ Contains (x ∷ xs) m) [
      | true ↦ λ is. elim (member_cases x (entered_in n xs) m is) [
        | inl same ↦ inr (subst (λ (y : Numbers). Contains (x ∷ xs) y) (sym same) (here x xs))
        | inr more ↦ elim (entered_cases n xs m more) [ inl same ↦ inl same | inr old ↦ inr (there x xs m old) ]
      ]
      | false ↦ λ is. elim (member_cases n (x ∷ xs) m is) [ inl same ↦ inl same | inr old ↦ inr old ]
    ]

pub length_entered : (n : Numbers) (ns : List Numbers) → length (entered_in n ns) ≡ suc (length ns)
length_entered n [] = refl
length_entered n (x ∷ xs) =
    elim (nat_lt x.pos n.pos) as (λ (b : Bool). length (if b then x ∷ entered_in n xs else n ∷ x ∷ xs) ≡ suc (suc (length xs))) [
      | true ↦ ap suc (length_entered n xs)
      | false ↦ refl
    ]

-- ---- by position

all_above : (n : Numbers) (ns : List Numbers) → AllByRecursion (Precedes n) ns → (m : Numbers) → Contains ns m → n.pos < m.pos
all_above n [] h m (k, lt, is) = absurd (omega (arith, lt))
all_above n (x ∷ xs) h m (zero, lt, is) = let above = h.0.position in omega (arith, above, ap (λ (y : Numbers). y.pos) is)
all_above n (x ∷ xs) h m (suc k, lt, is) = all_above n xs h.1 m (k, omega (arith, lt), is)

-- a booking is found at its position
pub found_in : (ns : List Numbers) → Ascending ns → (n : Numbers) → Contains ns n → at_position n.pos ns ≡ Some n
found_in [] h n (k, lt, is) = absurd (omega (arith, lt))
found_in (x ∷ xs) h n (zero, lt, is) = ap (λ (b : Bool). if b then Some x else at_position n.pos xs) (eq-eqb x.pos n.pos (ap (λ (y : Numbers). y.pos) is)) ∙ ap Some is
found_in (x ∷ xs) h n (suc k, lt, is) =
    let later : Contains xs n = (k, omega (arith, lt), is) in
    let above = all_above x xs h.0 n later in
    ap (λ (b : Bool). if b then Some x else at_position n.pos xs) (ne_eqb x.pos n.pos (λ e. omega (arith, e, above))) ∙ found_in xs h.1 n later
