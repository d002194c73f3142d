-- The rule of the bookings stands with one booking more.
use Rattle.std.proofs.Common.{◌≡◌, ◌≢◌, ◌↔◌, ℕ, suc, ◌<◌, ◌≤◌, Bool, true, false, nat_lt, eq-eqb, List, [], ◌∷◌, length, get_or, set, refl, sym, ap, subst, ◌∙◌, arith, inl, inr, length-set}
use Rattle.std.specs.Prelude.{◌⊎◌}
use Rattle.std.specs.List.{AllByRecursion, Contains}
use Rattle.std.proofs.lemmas.Bool.{ltb-true, ltb-false, ne_eqb, or_left, or_parts, both_ways, cases_order, cases_eq, cases_lt, cases_Bool, false_from_ne_true}
use Rattle.std.proofs.lemmas.List.{get_or_default, get_or-set_same, get_or-set_other, set_past}
use Rattle.std.proofs.lemmas.List.Elements.{All-from_recursion, recursion_from_All, All-contains, All-weaker, All-contains_itself, Contains-get_or}
use Rattle.wl_elem.specs.declared.lane.Lane.{Lane}
use Rattle.wl_elem.specs.Lanes.{lane_index}
use Rattle.wl_number.specs.declared.numbers.Numbers.{Numbers}
use Rattle.wl_number.specs.OrderRule.{same_pair, clash, Precedes, Ascending, OrderRule, NoneBreaks, list_at, list_of, entered_in, with_booking}
use Rattle.wl_number.specs.Bookings.{IsBook}
use Rattle.wl_number.specs.NumberObject.{InRange}
use Rattle.wl_number.proofs.Pairs.{precedes_trans, no_clash_cases, no_clash_before, no_clash_after, clash_of_two, not_same, not_same_back}
use Rattle.wl_number.proofs.Lists.{ascends}

-- ---- one list

all_entered : (P : Numbers → Type 0) (n : Numbers) (list : List Numbers) → P n → AllByRecursion P list → AllByRecursion P (entered_in n list)
all_entered P n [] here h = (here, tt)
all_entered P n (x ∷ xs) here h =
    elim (cases_Bool (nat_lt x.pos n.pos)) [
      | inl lower ↦ rw lower (h.0, all_entered P n xs here h.1)
      | inr other ↦ rw other (here, h)
    ]

-- what is in the list with the numbers is the numbers, or was in it
pub entered_cases : (n : Numbers) (list : List Numbers) (a : Numbers) → Contains (entered_in n list) a → (a ≡ n) ⊎ Contains list a
entered_cases n list a there =
    let Is : Numbers → Type 0 = λ b. (b ≡ n) ⊎ Contains list b in
    let own : AllByRecursion Is list = recursion_from_All Is list (All-weaker (Contains list) Is (λ b h. inr h) list (All-contains_itself list)) in
    All-contains Is (entered_in n list) a (All-from_recursion Is (entered_in n list) (all_entered Is n list (inl refl) own)) there

all_after : (n x : Numbers) (list : List Numbers) → Precedes n x → AllByRecursion (Precedes x) list → AllByRecursion (Precedes n) list
all_after n x [] p h = tt
all_after n x (y ∷ ys) p h = (precedes_trans n x y p h.0, all_after n x ys p h.1)

pub entered_ascends : (n : Numbers) (list : List Numbers) → Ascending list → AllByRecursion (λ b. clash true n b ≡ false) list → Ascending (entered_in n list)
entered_ascends n [] h free = (tt, tt)
entered_ascends n (x ∷ xs) h free =
    elim (cases_Bool (nat_lt x.pos n.pos)) [
      | inl lower ↦
          let lt : x.pos < n.pos = ltb-true _ _ lower in
          let before : Precedes x n = elim (no_clash_cases n x free.0) [ inl p ↦ p | inr p ↦ absurd (omega (arith, p.position)) ] in
          rw lower (all_entered (Precedes x) n xs before h.0, entered_ascends n xs h.1 free.1)
      | inr other ↦
          let ge : n.pos ≤ x.pos = ltb-false _ _ other in
          let after : Precedes n x = elim (no_clash_cases n x free.0) [ inl p ↦ absurd (omega (arith, p.position)) | inr p ↦ p ] in
          rw other ((after, all_after n x xs after h.0), h)
    ]

-- ---- all lanes

free_in_lane : (lanes : List (List Numbers)) (lane : Lane) (n : Numbers) → NoneBreaks lanes lane n → (b : Numbers) → Contains (list_of lanes lane) b → clash true n b ≡ false
free_in_lane lanes lane n none b there = false_from_ne_true _ (λ is.
    none b (record { place = lane_index lane; booked = there; clashes = subst (λ (own : Bool). clash own n b ≡ true) (sym (eq-eqb _ _ refl)) is }))

other_pair : (lanes : List (List Numbers)) (lane : Lane) (n : Numbers) → NoneBreaks lanes lane n → (place : ℕ) (b : Numbers) → Contains (list_at lanes place) b → same_pair n b ≡ false
other_pair lanes lane n none place b there = false_from_ne_true _ (λ is. none b (record { place = place; booked = there; clashes = or_left _ _ is }))

-- where the list of a place is one that was, or the lane's with the numbers
list_cases : (lanes : List (List Numbers)) (lane : Lane) (n : Numbers) (place : ℕ) → (list_at (with_booking lanes lane n) place ≡ list_at lanes place) ⊎ ((place ≡ lane_index lane) × (list_at (with_booking lanes lane n) place ≡ entered_in n (list_of lanes lane)))
list_cases lanes lane n place =
    let list = entered_in n (list_of lanes lane) in
    elim (cases_eq place (lane_index lane)) [
      | inl same ↦ elim (cases_lt (lane_index lane) (length lanes)) [
        | inl lt ↦ inr (same, ap (λ (k : ℕ). get_or (set lanes (lane_index lane) list) k []) same ∙ get_or-set_same lanes (lane_index lane) list [] lt)
        | inr past ↦ inl (ap (λ (l : List (List Numbers)). get_or l place []) (set_past lanes (lane_index lane) list past))
      ]
      | inr other ↦ inl (get_or-set_other lanes (lane_index lane) place list [] other)
    ]

booked_cases : (lanes : List (List Numbers)) (lane : Lane) (n : Numbers) (place : ℕ) (a : Numbers) → Contains (list_at (with_booking lanes lane n) place) a → ((a ≡ n) × (place ≡ lane_index lane)) ⊎ Contains (list_at lanes place) a
booked_cases lanes lane n place a there =
    elim (list_cases lanes lane n place) [
      | inl same ↦ inr (subst (λ (l : List Numbers). Contains l a) same there)
      | inr own ↦ elim (entered_cases n (list_of lanes lane) a (subst (λ (l : List Numbers). Contains l a) own.1 there)) [
        | inl is ↦ inl (is, own.0)
        | inr was ↦ inr (subst (λ (k : ℕ). Contains (list_at lanes k) a) (sym own.0) was)
      ]
    ]

all_apart : (lanes : List (List Numbers)) (lane : Lane) (n : Numbers) → OrderRule lanes → NoneBreaks lanes lane n → (place other : ℕ) (a b : Numbers) → place ≢ other → Contains (list_at (with_booking lanes lane n) place) a → Contains (list_at (with_booking lanes lane n) other) b → same_pair a b ≡ false
all_apart lanes lane n rule none place other a b apart x y =
    elim (booked_cases lanes lane n place a x) [
      | inl new ↦ elim (booked_cases lanes lane n other b y) [
        | inl also ↦ absurd (apart (new.1 ∙ sym also.1))
        | inr was ↦ subst (λ (v : Numbers). same_pair v b ≡ false) (sym new.0) (other_pair lanes lane n none other b was)
      ]
      | inr old ↦ elim (booked_cases lanes lane n other b y) [
        | inl new ↦ subst (λ (v : Numbers). same_pair a v ≡ false) (sym new.0) (not_same_back n a (other_pair lanes lane n none place a old))
        | inr was ↦ rule.apart place other a b apart old was
      ]
    ]

all_ascend : (lanes : List (List Numbers)) (lane : Lane) (n : Numbers) → OrderRule lanes → NoneBreaks lanes lane n → (place : ℕ) → Ascending (list_at (with_booking lanes lane n) place)
all_ascend lanes lane n rule none place =
    elim (list_cases lanes lane n place) [
      | inl same ↦ subst Ascending (sym same) (rule.ascending place)
      | inr own ↦
          let list = list_of lanes lane in
          let free = recursion_from_All (λ b. clash true n b ≡ false) list (λ k d lt. free_in_lane lanes lane n none _ (Contains-get_or list k d lt)) in
          subst Ascending (sym own.1) (entered_ascends n list (rule.ascending (lane_index lane)) free)
    ]

-- with numbers that break nothing the rule stands
pub rule_stands : (lanes : List (List Numbers)) (lane : Lane) (n : Numbers) → OrderRule lanes → NoneBreaks lanes lane n → OrderRule (with_booking lanes lane n)
rule_stands lanes lane n rule none = record { ascending = all_ascend lanes lane n rule none; apart = all_apart lanes lane n rule none }

pub book_stands : (lanes : List (List Numbers)) (lane : Lane) (n : Numbers) → IsBook lanes → InRange n → NoneBreaks lanes lane n → IsBook (with_booking lanes lane n)
book_stands lanes lane n book range none = record {
  nine = length-set lanes (lane_index lane) (entered_in n (list_of lanes lane)) ∙ book.nine;
  rule = rule_stands lanes lane n book.rule none;
  in_range = λ place a there. elim (booked_cases lanes lane n place a there) [
    | inl new ↦ subst InRange (sym new.0) range
    | inr was ↦ book.in_range place a was
  ];
}

-- the lists once the numbers are put into the lane's
pub book_after : (lanes after : List (List Numbers)) (lane : Lane) (place : ℕ) (n : Numbers) → place ≡ lane_index lane → after ≡ set lanes place (entered_in n (list_at lanes place)) → IsBook lanes → InRange n → NoneBreaks lanes lane n → IsBook after
book_after lanes after lane place n is entered book range none =
    let with : set lanes place (entered_in n (list_at lanes place)) ≡ with_booking lanes lane n = ap (λ (k : ℕ). set lanes k (entered_in n (list_at lanes k))) is in
    subst IsBook (sym (entered ∙ with)) (book_stands lanes lane n book range none)

-- ---- the rule in its own words

more_kept : (P Q : Numbers → Type 0) → ((a : Numbers) → P a → Q a) → (list : List Numbers) → AllByRecursion P list → AllByRecursion Q list
more_kept P Q weaker [] h = tt
more_kept P Q weaker (x ∷ xs) h = (weaker x h.0, more_kept P Q weaker xs h.1)

has_later : (x : Numbers) (list : List Numbers) (a : Numbers) → Contains list a → Contains (x ∷ list) a
has_later x list a (k, within, is) = (suc k, omega arith, is)

has_first : (x : Numbers) (list : List Numbers) → Contains (x ∷ list) x
has_first x list = (0, omega arith, refl)

entered_has : (n : Numbers) (list : List Numbers) → Contains (entered_in n list) n
entered_has n [] = has_first n []
entered_has n (x ∷ xs) =
    elim (cases_Bool (nat_lt x.pos n.pos)) [
      | inl lower ↦ rw lower (has_later x (entered_in n xs) n (entered_has n xs))
      | inr other ↦ rw other (has_first n (x ∷ xs))
    ]

all_kept : (n : Numbers) (list : List Numbers) → AllByRecursion (Contains (entered_in n list)) list
all_kept n [] = tt
all_kept n (x ∷ xs) =
    let Kept : List Numbers → Type 0 = λ l. AllByRecursion (Contains l) (x ∷ xs) in
    elim (cases_Bool (nat_lt x.pos n.pos)) [
      | inl lower ↦
          let is : entered_in n (x ∷ xs) ≡ x ∷ entered_in n xs = rw lower refl in
          subst Kept (sym is) (has_first x (entered_in n xs), more_kept (Contains (entered_in n xs)) (Contains (x ∷ entered_in n xs)) (λ a h. has_later x (entered_in n xs) a h) xs (all_kept n xs))
      | inr other ↦
          let is : entered_in n (x ∷ xs) ≡ n ∷ x ∷ xs = rw other refl in
          subst Kept (sym is) (has_later n (x ∷ xs) x (has_first x xs), recursion_from_All (Contains (n ∷ x ∷ xs)) xs (All-weaker (Contains xs) (Contains (n ∷ x ∷ xs)) (λ a h. has_later n (x ∷ xs) a (has_later x xs a h)) xs (All-contains_itself xs)))
    ]

entered_keeps : (n : Numbers) (list : List Numbers) (a : Numbers) → Contains list a → Contains (entered_in n list) a
entered_keeps n list a there = All-contains (Contains (entered_in n list)) list a (All-from_recursion (Contains (entered_in n list)) list (all_kept n list)) there

pub one_added : (lanes : List (List Numbers)) (lane : Lane) (n a : Numbers) (place : ℕ) → lane_index lane < length lanes → Contains (list_at (with_booking lanes lane n) place) a ↔ (((a ≡ n) × (place ≡ lane_index lane)) ⊎ Contains (list_at lanes place) a)
one_added lanes lane n a place lt =
    let list = entered_in n (list_of lanes lane) in
    let own : (p : ℕ) → p ≡ lane_index lane → list_at (with_booking lanes lane n) p ≡ list = λ p same. ap (λ (k : ℕ). get_or (set lanes (lane_index lane) list) k []) same ∙ get_or-set_same lanes (lane_index lane) list [] lt in (
      booked_cases lanes lane n place a,
      λ either. elim either [
        | inl new ↦ subst (λ (l : List Numbers). Contains l a) (sym (own place new.1)) (subst (λ (v : Numbers). Contains list v) (sym new.0) (entered_has n (list_of lanes lane)))
        | inr was ↦ elim (cases_eq place (lane_index lane)) [
          | inl same ↦ subst (λ (l : List Numbers). Contains l a) (sym (own place same)) (entered_keeps n (list_of lanes lane) a (subst (λ (k : ℕ). Contains (list_at lanes k) a) same was))
          | inr other ↦ subst (λ (l : List Numbers). Contains l a) (sym (get_or-set_other lanes (lane_index lane) place list [] other)) was
        ]
      ],
    )

-- of two entries at two places one comes before the other
pub one_order : (list : List Numbers) → Ascending list → (a b : Numbers) → Contains list a → Contains list b → (a ≡ b) ⊎ (Precedes a b ⊎ Precedes b a)
one_order list h a b (i, i_in, i_is) (j, j_in, j_is) =
    elim (cases_order i j) [
      | inl same ↦ inl (sym i_is ∙ get_or_default list i a b i_in ∙ ap (λ (k : ℕ). get_or list k b) same ∙ j_is)
      | inr (inl lt) ↦ inr (inl (subst (λ (v : Numbers). Precedes v b) i_is (subst (λ (v : Numbers). Precedes (get_or list i a) v) j_is (ascends list h i j a b lt j_in))))
      | inr (inr lt) ↦ inr (inr (subst (λ (v : Numbers). Precedes v a) j_is (subst (λ (v : Numbers). Precedes (get_or list j b) v) i_is (ascends list h j i b a lt i_in))))
    ]

pub pair_once : (lanes : List (List Numbers)) (place other : ℕ) (a b : Numbers) → OrderRule lanes → Contains (list_at lanes place) a → Contains (list_at lanes other) b → same_pair a b ≡ true → (place ≡ other) × (a ≡ b)
pair_once lanes place other a b rule x y same =
    elim (cases_eq place other) [
      | inl one ↦ (
        one,
        elim (one_order (list_at lanes other) (rule.ascending other) a b (subst (λ (k : ℕ). Contains (list_at lanes k) a) one x) y) [
          | inl is ↦ is
          | inr (inl p) ↦ absurd (both_ways _ (not_same a b p.pair) same)
          | inr (inr p) ↦ absurd (both_ways _ (not_same_back b a (not_same b a p.pair)) same)
        ],
      )
      | inr two ↦ absurd (both_ways _ (rule.apart place other a b two x y) same)
    ]

-- where the list ascends with the numbers, each entry comes before or after them
all_in_order : (n : Numbers) (list : List Numbers) → Ascending (entered_in n list) → AllByRecursion (λ b. clash true n b ≡ false) list
all_in_order n [] h = tt
all_in_order n (x ∷ xs) h =
    elim (cases_Bool (nat_lt x.pos n.pos)) [
      | inl lower ↦
          let at : Ascending (x ∷ entered_in n xs) = rw lower at h in
          let before : Precedes x n = All-contains (Precedes x) (entered_in n xs) n (All-from_recursion (Precedes x) (entered_in n xs) at.0) (entered_has n xs) in
          (no_clash_after true x n before, all_in_order n xs at.1)
      | inr other ↦
          let at : Ascending (n ∷ x ∷ xs) = rw other at h in
          more_kept (Precedes n) (λ b. clash true n b ≡ false) (λ b p. no_clash_before true n b p) (x ∷ xs) at.0
    ]

own_clash : (own : Bool) (n b : Numbers) → clash own n b ≡ true → clash true n b ≡ false → ⊥
own_clash true n b is not = both_ways _ not is
own_clash false n b is not = both_ways _ (or_parts (same_pair n b) _ not).0 (sym (clash_of_two n b) ∙ is)

pub none_from_rule : (lanes : List (List Numbers)) (lane : Lane) (n : Numbers) → lane_index lane < length lanes → OrderRule (with_booking lanes lane n) → NoneBreaks lanes lane n
none_from_rule lanes lane n lt rule kept b =
    let list = list_of lanes lane in
    let own : list_at (with_booking lanes lane n) (lane_index lane) ≡ entered_in n list = get_or-set_same lanes (lane_index lane) (entered_in n list) [] lt in
    elim (cases_eq b.place (lane_index lane)) [
      | inl same ↦
          let free = All-from_recursion (λ v. clash true n v ≡ false) list (all_in_order n list (subst Ascending own (rule.ascending (lane_index lane)))) in
          own_clash _ n kept b.clashes (All-contains (λ v. clash true n v ≡ false) list kept free (subst (λ (k : ℕ). Contains (list_at lanes k) kept) same b.booked))
      | inr other ↦
          let new : Contains (list_at (with_booking lanes lane n) (lane_index lane)) n = subst (λ (l : List Numbers). Contains l n) (sym own) (entered_has n list) in
          let was : Contains (list_at (with_booking lanes lane n) b.place) kept = subst (λ (l : List Numbers). Contains l kept) (sym (get_or-set_other lanes (lane_index lane) b.place (entered_in n list) [] other)) b.booked in
          let two : clash false n kept ≡ true = subst (λ (v : Bool). clash v n kept ≡ true) (ne_eqb b.place (lane_index lane) other) b.clashes in
          both_ways _ (rule.apart (lane_index lane) b.place n kept (λ e. other (sym e)) new was) (sym (clash_of_two n kept) ∙ two)
    ]
