-- Ascending lists, and places in them.
use Rattle.std.proofs.Common.{◌≡◌, ℕ, zero, suc, ◌<◌, ◌≤◌, Bool, true, false, List, [], ◌∷◌, length, get_or, Some, refl, sym, ap, subst, ◌∙◌, arith, inl, inr}
use Rattle.std.specs.Prelude.{slice_get}
use Rattle.std.specs.List.{Contains, insert}
use Rattle.std.specs.List.Sorted.{IsPartitionPoint, IsPartitionedBy}
use Rattle.std.proofs.lemmas.Bool.{ltb-true, lt-ltb, le-ltb, and_from, and_parts, both_ways, cases_eq, cases_order}
use Rattle.std.proofs.lemmas.List.{get_or_default}
use Rattle.std.proofs.lemmas.List.Elements.{All-from_recursion}
use Rattle.std.proofs.lemmas.Option.{slice_get-get_or, get_or_from_slice_get, slice_get_within}
use Rattle.wl_number.specs.declared.numbers.Numbers.{Numbers}
use Rattle.wl_number.specs.OrderRule.{is_below, same_pair, clash, Precedes, Ascending, entered_in}
use Rattle.wl_number.specs.Places.{IsPlace, has_lower_position, has_lower_pair, comes_before, NoClash, FirstClash}
use Rattle.wl_number.proofs.Pairs.{below_trans, below_from_others, not_back, not_itself, not_same, not_same_back, precedes_trans, no_clash_before, no_clash_after, no_clash_cases, clash_of_two}

-- an earlier entry comes before a later one
pub ascends : (list : List Numbers) → Ascending list → (i j : ℕ) (d e : Numbers) → i < j → j < length list → Precedes (get_or list i d) (get_or list j e)
ascends [] h i j d e lt within = absurd (omega arith)
ascends (x ∷ xs) h zero zero d e lt within = absurd (omega arith)
ascends (x ∷ xs) h zero (suc j) d e lt within = All-from_recursion (Precedes x) xs h.0 j e (omega arith)
ascends (x ∷ xs) h (suc i) zero d e lt within = absurd (omega arith)
ascends (x ∷ xs) h (suc i) (suc j) d e lt within = ascends xs h.1 i j d e (omega arith) (omega arith)

-- ---- the places that a binary search finds

pub parted : (test : Numbers → Bool) (list : List Numbers) → Ascending list → ((a b : Numbers) → Precedes a b → test b ≡ true → test a ≡ true) → IsPartitionedBy test list
parted test list h down i j d le within passes =
    elim (cases_eq i j) [
      | inl same ↦ subst (λ (k : ℕ). test (get_or list k d) ≡ true) (sym same) passes
      | inr other ↦ down _ _ (ascends list h i j d d (omega (arith, other)) within) passes
    ]

pub position_goes_down : (pos : ℕ) (a b : Numbers) → Precedes a b → has_lower_position pos b ≡ true → has_lower_position pos a ≡ true
position_goes_down pos a b p h = lt-ltb a.pos pos (omega (arith, p.position, ltb-true b.pos pos h))

pub pair_goes_down : (key pn : ℕ) (a b : Numbers) → Precedes a b → has_lower_pair key pn b ≡ true → has_lower_pair key pn a ≡ true
pair_goes_down key pn a b p h = below_trans a b (record { pos = 0; key = key; pn = pn }) p.pair h

pub is_place : (test : Numbers → Bool) (list : List Numbers) (place : ℕ) → place ≤ length list → IsPartitionPoint (λ b. test b ≡ true) (λ b. test b ≡ false) list place → IsPlace test list place
is_place test list place within point = record { within = within; before = point.0; after = point.1 }

-- ---- what stands at a place

-- what is read there is what stands there
pub is_read : (list : List Numbers) (place : ℕ) (x b : Numbers) → x ≡ get_or list place x → slice_get list place ≡ Some b → x ≡ b
is_read list place x b read found = read ∙ get_or_from_slice_get list place b x found

-- an entry that fails the test, where all that comes before it pass, stands at the place
pub only_at : (test : Numbers → Bool) (list : List Numbers) (place : ℕ) → Ascending list → IsPlace test list place → (n : Numbers) → Contains list n → test n ≡ false → ((a : Numbers) → Precedes a n → test a ≡ true) → slice_get list place ≡ Some n
only_at test list place h at n (k, within, is) fails lower =
    elim (cases_order k place) [
      | inl same ↦ subst (λ (i : ℕ). slice_get list i ≡ Some n) same (slice_get-get_or list k n within ∙ ap (λ (x : Numbers). Some x) is)
      | inr (inl lt) ↦ absurd (both_ways _ fails (subst (λ (x : Numbers). test x ≡ true) is (at.before k n (omega arith) lt)))
      | inr (inr lt) ↦
          let before : Precedes (get_or list place n) n = subst (λ (x : Numbers). Precedes (get_or list place n) x) is (ascends list h place k n n lt within) in
          absurd (both_ways _ (at.after place n (omega arith) (omega arith)) (lower _ before))
    ]

pub only_at_position : (pos : ℕ) (list : List Numbers) (place : ℕ) → Ascending list → IsPlace (has_lower_position pos) list place → (n : Numbers) → Contains list n → n.pos ≡ pos → slice_get list place ≡ Some n
only_at_position pos list place h at n there is =
    only_at (has_lower_position pos) list place h at n there (le-ltb n.pos pos (omega arith)) (λ a p. lt-ltb a.pos pos (omega (arith, p.position)))

pub only_at_pair : (list : List Numbers) (place : ℕ) (n : Numbers) → Ascending list → IsPlace (has_lower_pair n.key n.pn) list place → Contains list n → slice_get list place ≡ Some n
only_at_pair list place n h at there = only_at (has_lower_pair n.key n.pn) list place h at n there (not_itself n) (λ a p. p.pair)

-- ---- the first that clashes

pub no_clash_of_earlier : (own : Bool) (n b : Numbers) → comes_before own n b ≡ true → clash own n b ≡ false
no_clash_of_earlier true n b h = let parts = and_parts _ _ h in no_clash_after true b n (record { position = ltb-true b.pos n.pos parts.1; pair = parts.0 })
no_clash_of_earlier false n b h = clash_of_two n b ∙ not_same_back b n (not_same b n h)

-- where an entry neither comes before the numbers nor clashes with them, nor does a later one
pub no_clash_of_later : (own : Bool) (n a b : Numbers) → comes_before own n a ≡ false → clash own n a ≡ false → Precedes a b → clash own n b ≡ false
no_clash_of_later true n a b fails free p =
    elim (no_clash_cases n a free) [
      | inl before ↦ absurd (both_ways _ fails (and_from _ _ before.pair (lt-ltb _ _ before.position)))
      | inr after ↦ no_clash_before true n b (precedes_trans n a b after p)
    ]
no_clash_of_later false n a b fails free p =
    let other : same_pair n a ≡ false = sym (clash_of_two n a) ∙ free in
    clash_of_two n b ∙ not_same n b (below_trans n a b (below_from_others n a other fails) p.pair)

-- where the entry at the place is free of clashes, all are
pub all_free : (own : Bool) (n : Numbers) (list : List Numbers) (place : ℕ) → Ascending list → IsPlace (comes_before own n) list place → ((b : Numbers) → slice_get list place ≡ Some b → clash own n b ≡ false) → NoClash own n list
all_free own n list place h at free b (k, within, is) =
    elim (cases_order k place) [
      | inl same ↦ free b (subst (λ (i : ℕ). slice_get list i ≡ Some b) same (slice_get-get_or list k b within ∙ ap (λ (x : Numbers). Some x) is))
      | inr (inl lt) ↦ no_clash_of_earlier own n b (subst (λ (x : Numbers). comes_before own n x ≡ true) is (at.before k b (omega arith) lt))
      | inr (inr lt) ↦
          let before : Precedes (get_or list place b) b = subst (λ (x : Numbers). Precedes (get_or list place b) x) is (ascends list h place k b b lt within) in
          no_clash_of_later own n (get_or list place b) b (at.after place b (omega arith) (omega arith)) (free _ (slice_get-get_or list place b (omega arith))) before
    ]

-- an entry at the place that clashes is the first
pub is_first : (own : Bool) (n : Numbers) (list : List Numbers) (place : ℕ) → Ascending list → IsPlace (comes_before own n) list place → (kept : Numbers) → slice_get list place ≡ Some kept → clash own n kept ≡ true → FirstClash own n list kept
is_first own n list place h at kept found clashes =
    let within = slice_get_within list place kept found in
    let here = get_or_from_slice_get list place kept kept found in
    record {
      booked = (place, within, here);
      clashes = clashes;
      least = λ b there c. elim (cases_order there.0 place) [
        | inl same ↦ subst (λ (x : Numbers). is_below x kept ≡ false) (sym here ∙ ap (λ (i : ℕ). get_or list i kept) (sym same) ∙ get_or_default list there.0 kept b there.1 ∙ there.2) (not_itself kept)
        | inr (inl lt) ↦ absurd (both_ways _ (no_clash_of_earlier own n b (subst (λ (x : Numbers). comes_before own n x ≡ true) there.2 (at.before there.0 b (omega arith) lt))) c)
        | inr (inr lt) ↦
            let after = subst (λ (x : Numbers). Precedes x b) here (subst (λ (x : Numbers). Precedes (get_or list place kept) x) there.2 (ascends list h place there.0 kept b lt there.1)) in
            not_back kept b after.pair
      ];
    }

-- ---- one entry more

-- what is put in at its place by position
pub entered_is : (n : Numbers) (list : List Numbers) (place : ℕ) → IsPlace (has_lower_position n.pos) list place → insert list place n ≡ entered_in n list
entered_is n [] zero at = refl
entered_is n [] (suc place) at = absurd (omega (arith, at.within))
entered_is n (x ∷ xs) zero at = rw (at.after 0 x (omega arith) (omega arith)) refl
entered_is n (x ∷ xs) (suc place) at =
    let more = entered_is n xs place (record {
      within = omega (arith, at.within);
      before = λ k d low high. at.before (suc k) d (omega arith) (omega arith);
      after = λ k d low high. at.after (suc k) d (omega arith) (omega arith);
    }) in
    rw (at.before 0 x (omega arith) (omega arith)) (ap (λ (l : List Numbers). x ∷ l) more)
