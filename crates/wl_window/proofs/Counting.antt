-- How many items go up.
use Rattle.std.specs.Prelude.{◌==◌}
use Rattle.std.proofs.Common.{◌≡◌, ◌≢◌, ℕ, zero, suc, ◌+◌, ◌<◌, ◌≤◌, max, false, List, [], ◌∷◌, length, drop, refl, sym, ap, subst, ◌∙◌, arith, inl, inr}
use Rattle.std.proofs.lemmas.Bool.{lt-ltb, cases_lt, or_parts, le-ltb, eqb-false}
use Rattle.wl_window.specs.declared.slot.Slot.{Slot}
use Rattle.wl_window.specs.Reordering.{Moved, holds, placed, IsRising, advanced}
use Rattle.wl_window.proofs.Moving.{wider, due, not_due, still, after_item, placed_rising}

module _ {T : Type 0} where
  pub drop_rising : (count : ℕ) (slots : List (Slot T)) (high : ℕ) → IsRising 0 high slots → IsRising 0 high (drop count slots)
  drop_rising zero slots high is = is
  drop_rising (suc count) [] high is = tt
  drop_rising (suc count) (slot ∷ slots) high is = drop_rising count slots high (wider slots (slot.number + 1) high 0 high (omega arith) (omega arith) is.2)

  -- ---- what stays

  -- the first slots went up, and the others stay
  pub record Leaves (slots : List (Slot T)) (moved : Moved T) : Type 0 where
    pub within : length moved.up ≤ length slots
    pub left : moved.window.slots ≡ drop (length moved.up) slots

  leaves_on : (slot : Slot T) (slots : List (Slot T)) (moved : Moved T) → Leaves slots moved → Leaves (slot ∷ slots) (after_item slot.item moved)
  leaves_on slot slots moved is = record { within = omega (arith, is.within); left = is.left }

  leaves_still : (start : ℕ) (slots : List (Slot T)) → Leaves slots (still start slots)
  leaves_still start slots = record { within = omega arith; left = refl }

  pub leaves : (slots : List (Slot T)) (to low high : ℕ) → IsRising low high slots → Leaves slots (advanced to slots)
  leaves [] to low high is = subst (λ (m : Moved T). Leaves [] m) (sym (not_due to [] high tt)) (leaves_still to [])
  leaves (slot ∷ slots) to low high is = elim (cases_lt to slot.number) [
    | inl lt ↦
        let past : IsRising (to + 1) high (slot ∷ slots) = (omega arith, is.1, is.2) in
        subst (λ (m : Moved T). Leaves (slot ∷ slots) m) (sym (not_due to (slot ∷ slots) high past)) (leaves_still to (slot ∷ slots))
    | inr le ↦
        subst (λ (m : Moved T). Leaves (slot ∷ slots) m) (sym (due to slot slots high le is.2))
        (leaves_on slot slots (advanced (max to (slot.number + 1)) slots) (leaves slots (max to (slot.number + 1)) (slot.number + 1) high is.2))
  ]

  -- ---- a slot more

  -- What goes up without a slot, and with it: as many where the run ends before its number, and
  -- otherwise it and the run behind it too.
  pub record Joins (new : Slot T) (without with_it : Moved T) : Type 0 where
    pub short : without.window.start < new.number → length with_it.up ≡ length without.up
    pub long : new.number ≤ without.window.start → length with_it.up ≡ length without.up + suc (length (advanced (new.number + 1) without.window.slots).up)

  joins_on : (new slot : Slot T) (without with_it : Moved T) → Joins new without with_it → Joins new (after_item slot.item without) (after_item slot.item with_it)
  joins_on new slot without with_it is = record { short = λ lt. ap suc (is.short lt); long = λ le. omega (arith, is.long le) }

  placed_first : (new : Slot T) (slots : List (Slot T)) (high : ℕ) → IsRising (new.number + 1) high slots → placed new slots ≡ new ∷ slots
  placed_first new [] high is = refl
  placed_first new (slot ∷ slots) high is = rw (lt-ltb new.number slot.number (omega (arith, is.0))) refl

  joins_still : (new : Slot T) (slots : List (Slot T)) (to high : ℕ) → IsRising (to + 1) high slots → to ≤ new.number → new.number < high → holds new.number slots ≡ false → Joins new (still to slots) (advanced to (placed new slots))
  joins_still new slots to high is le lt absent = elim (cases_lt to new.number) [
    | inl past ↦
        subst (λ (m : Moved T). Joins new (still to slots) m) (sym (not_due to (placed new slots) high (placed_rising new slots (to + 1) high is (omega arith) lt absent)))
        (record { short = λ _. refl; long = λ no_more. absurd (omega (arith, no_more)) })
    | inr at ↦
        let same : to ≡ new.number = omega arith in
        let more : max to (new.number + 1) ≡ new.number + 1 = omega arith in
        let rising : IsRising (new.number + 1) high slots = subst (λ (n : ℕ). IsRising (n + 1) high slots) same is in
        let all : advanced to (placed new slots) ≡ after_item new.item (advanced (new.number + 1) slots) =
        ap (advanced to) (placed_first new slots high rising) ∙ due to new slots high at rising ∙ ap (λ (n : ℕ). after_item new.item (advanced n slots)) more in
        subst (λ (m : Moved T). Joins new (still to slots) m) (sym all) (record { short = λ less. absurd (omega (arith, less)); long = λ _. omega arith })
  ]

  pub joins : (new : Slot T) (slots : List (Slot T)) (to low high : ℕ) → IsRising low high slots → to ≤ new.number → new.number < high → holds new.number slots ≡ false → Joins new (advanced to slots) (advanced to (placed new slots))
  joins new [] to low high is le lt absent = subst (λ (m : Moved T). Joins new m (advanced to (placed new []))) (sym (not_due to [] high tt)) (joins_still new [] to high tt le lt absent)
  joins new (slot ∷ slots) to low high is le lt absent = elim (cases_lt to slot.number) [
    | inl before ↦
        let past : IsRising (to + 1) high (slot ∷ slots) = (omega arith, is.1, is.2) in
        subst (λ (m : Moved T). Joins new m (advanced to (placed new (slot ∷ slots)))) (sym (not_due to (slot ∷ slots) high past)) (joins_still new (slot ∷ slots) to high past le lt absent)
    | inr after ↦
        let parts = or_parts (slot.number == new.number) (holds new.number slots) absent in
        let other : slot.number ≢ new.number = eqb-false _ _ parts.0 in
        let low : slot.number < new.number = omega (arith, other) in
        let next = max to (slot.number + 1) in
        let put : placed new (slot ∷ slots) ≡ slot ∷ placed new slots = rw (le-ltb new.number slot.number (omega arith)) refl in
        let without = due to slot slots high after is.2 in
        let with_it : advanced to (placed new (slot ∷ slots)) ≡ after_item slot.item (advanced next (placed new slots)) =
        ap (advanced to) put ∙ due to slot (placed new slots) high after (placed_rising new slots (slot.number + 1) high is.2 (omega arith) lt parts.1) in
        subst (λ (m : Moved T). Joins new m (advanced to (placed new (slot ∷ slots)))) (sym without)
        (subst (λ (m : Moved T). Joins new (after_item slot.item (advanced next slots)) m) (sym with_it)
        (joins_on new slot (advanced next slots) (advanced next (placed new slots)) (joins new slots next (slot.number + 1) high is.2 (omega arith) lt parts.1)))
  ]
