-- Where a binary search ends among rising slots.
use Rattle.std.proofs.Common.{◌≡◌, ℕ, zero, suc, ◌+◌, ◌<◌, ◌≤◌, true, false, eq-eqb, List, [], ◌∷◌, length, get_or, Result, Ok, Err, MatchResult, refl, sym, ap, arith}
use Rattle.std.specs.List.{insert}
use Rattle.std.specs.List.Sorted.{IsSearchInRange, IsBinarySearchResult, IsNonDecreasingBy}
use Rattle.std.specs.Ordering.{nat_cmp, ordering_index}
use Rattle.std.proofs.lemmas.Cmp.{ranked}
use Rattle.std.proofs.lemmas.Bool.{lt-ltb, le-ltb, ne_eqb, or_from, or_left, or_right}
use Rattle.std.proofs.lemmas.Bool.Decides.{nat_tests}
use Rattle.wl_window.specs.declared.slot.Slot.{Slot}
use Rattle.wl_window.specs.Reordering.{holds, placed, IsRising}
use Rattle.wl_window.specs.Placing.{IsGap}

module _ {T : Type 0} where
  abbrev number_at : List (Slot T) → ℕ → Slot T → ℕ
  number_at slots i d = (get_or slots i d).number

  low_at : (slots : List (Slot T)) (low high i : ℕ) (d : Slot T) → IsRising low high slots → i < length slots → low ≤ number_at slots i d
  low_at [] low high i d is lt = absurd (omega arith)
  low_at (slot ∷ slots) low high zero d is lt = is.0
  low_at (slot ∷ slots) low high (suc i) d is lt = omega (arith, is.0, low_at slots (slot.number + 1) high i d is.2 (omega arith))

  rise_at : (slots : List (Slot T)) (low high i j : ℕ) (d : Slot T) → IsRising low high slots → i ≤ j → j < length slots → number_at slots i d ≤ number_at slots j d
  rise_at [] low high i j d is le lt = absurd (omega arith)
  rise_at (slot ∷ slots) low high zero zero d is le lt = omega arith
  rise_at (slot ∷ slots) low high zero (suc j) d is le lt = omega (arith, low_at slots (slot.number + 1) high j d is.2 (omega arith))
  rise_at (slot ∷ slots) low high (suc i) zero d is le lt = absurd (omega arith)
  rise_at (slot ∷ slots) low high (suc i) (suc j) d is le lt = rise_at slots (slot.number + 1) high i j d is.2 (omega arith) (omega arith)

  held_at : (slots : List (Slot T)) (number i : ℕ) → i < length slots → ((d : Slot T) → number_at slots i d ≡ number) → holds number slots ≡ true
  held_at [] number i lt e = absurd (omega arith)
  held_at (slot ∷ slots) number zero lt e = or_left _ _ (eq-eqb slot.number number (e slot))
  held_at (slot ∷ slots) number (suc i) lt e = or_right _ _ (held_at slots number i (omega arith) e)

  absent_at : (slots : List (Slot T)) (number i : ℕ) → ((j : ℕ) (d : Slot T) → j < i → number_at slots j d < number) → ((j : ℕ) (d : Slot T) → i ≤ j → j < length slots → number < number_at slots j d) → holds number slots ≡ false
  absent_at [] number i less more = refl
  absent_at (slot ∷ slots) number zero less more = or_from _ _ (ne_eqb slot.number number (λ e. omega (arith, more 0 slot (omega arith) (omega arith)))) (absent_at slots number zero (λ j d lt. absurd (omega arith)) (λ j d le lt. more (suc j) d (omega arith) (omega arith)))
  absent_at (slot ∷ slots) number (suc i) less more = or_from _ _ (ne_eqb slot.number number (λ e. omega (arith, less 0 slot (omega arith)))) (absent_at slots number i (λ j d lt. less (suc j) d (omega arith)) (λ j d le lt. more (suc j) d (omega arith) (omega arith)))

  put_at : (new : Slot T) (slots : List (Slot T)) (i : ℕ) → i ≤ length slots → ((j : ℕ) (d : Slot T) → j < i → number_at slots j d < new.number) → ((j : ℕ) (d : Slot T) → i ≤ j → j < length slots → new.number < number_at slots j d) → placed new slots ≡ insert slots i new
  put_at new [] zero le less more = refl
  put_at new [] (suc i) le less more = absurd (omega arith)
  put_at new (slot ∷ slots) zero le less more = rw (lt-ltb new.number slot.number (more 0 slot (omega arith) (omega arith))) refl
  put_at new (slot ∷ slots) (suc i) le less more =
      let lt : slot.number < new.number = less 0 slot (omega arith) in
      rw (le-ltb new.number slot.number (omega arith)) (ap (λ (rest : List (Slot T)). slot ∷ rest) (put_at new slots i (omega arith) (λ j d lt. less (suc j) d (omega arith)) (λ j d le lt. more (suc j) d (omega arith) (omega arith))))

  module _ (slots : List (Slot T)) (low high : ℕ) (is : IsRising low high slots) (number : ℕ) where
    comparisons_rise : IsNonDecreasingBy (λ (slot : Slot T). ordering_index (nat_cmp slot.number number)) slots
    comparisons_rise i j d le lt = let rise = rise_at slots low high i j d is le lt in grind (arith, nat_tests)

    -- a binary search ends at the number, or at the place for it
    pub searched : (r : Result ℕ ℕ) → IsSearchInRange r (length slots) → IsBinarySearchResult (λ (slot : Slot T). nat_cmp slot.number number) slots r → MatchResult r (λ _. holds number slots ≡ true) (IsGap number slots)
    searched (Ok i) within equal = held_at slots number i within (λ d. ranked _ number _ (sym (equal d)))
    searched (Err i) within parted =
        let less : (j : ℕ) (d : Slot T) → j < i → number_at slots j d < number = λ j d lt. ranked _ number _ (sym ((parted comparisons_rise).0 j d (omega arith) lt)) in
        let more : (j : ℕ) (d : Slot T) → i ≤ j → j < length slots → number < number_at slots j d = λ j d le lt. ranked _ number _ (sym ((parted comparisons_rise).1 j d le lt)) in
        record {
          within = within;
          absent = absent_at slots number i less more;
          put = λ item. put_at (record { number = number; item = item }) slots i within less more;
        }
