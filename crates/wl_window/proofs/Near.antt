-- A window moves by at most half the number space a step, and what it stores lies less than that ahead.
use Rattle.std.proofs.Common.{◌≡◌, ℕ, ◌+◌, ◌<◌, ◌≤◌, Bool, true, false, List, [], ◌∷◌, Some, subst, arith}
use Rattle.std.specs.Prelude.{◌==◌, nat_lt, if◌then◌else◌}
use Rattle.std.proofs.lemmas.Bool.{eqb-true, cond_both}
use Rattle.wl_window.specs.declared.slot.Slot.{Slot}
use Rattle.wl_window.specs.Reordering.{Window, Store, Moved, Stored, AllBelow, IsNear, MovesNear, placed, from, run_end, advanced, arrived, requested}
use Rattle.wl_window.proofs.Moving.{run_end_least}
use Rattle.wl_window.proofs.Keeping.{came_so, asked_so}

module _ {T : Type 0} where
  below_placed : (high : ℕ) (new : Slot T) (slots : List (Slot T)) → new.number < high → AllBelow high slots → AllBelow high (placed new slots)
  below_placed high new [] lt h = (lt, tt)
  below_placed high new (slot ∷ slots) lt h =
      elim (nat_lt new.number slot.number) as (λ (b : Bool). AllBelow high (if b then new ∷ slot ∷ slots else slot ∷ placed new slots)) [
        | true ↦ (lt, h)
        | false ↦ (h.0, below_placed high new slots lt h.1)
      ]

  below_from : (high to : ℕ) (slots : List (Slot T)) → AllBelow high slots → AllBelow high (from to slots)
  below_from high to [] h = tt
  below_from high to (slot ∷ slots) h =
      elim (nat_lt slot.number to) as (λ (b : Bool). AllBelow high (if b then from to slots else slot ∷ from to slots)) [
        | true ↦ below_from high to slots h.1
        | false ↦ (h.0, below_from high to slots h.1)
      ]

  higher : (low high : ℕ) (slots : List (Slot T)) → low ≤ high → AllBelow low slots → AllBelow high slots
  higher low high [] le h = tt
  higher low high (slot ∷ slots) le h = (omega (arith, h.0), higher low high slots le h.1)

  run_within : (start high : ℕ) (slots : List (Slot T)) → start ≤ high → AllBelow high slots → run_end start slots ≤ high
  run_within start high [] le h = le
  run_within start high (slot ∷ slots) le h =
      cond_both (slot.number == start) (run_end (start + 1) slots) start (λ n. n ≤ high)
      (λ same. let at : slot.number ≡ start = eqb-true slot.number start same in run_within (start + 1) high slots (omega (arith, at, h.0)) h.1)
      (λ _. le)

  advanced_near : (window : Window T) (to : ℕ) (slots : List (Slot T)) → window.start ≤ to → to ≤ window.start + 2048 → AllBelow (window.start + 2048) slots → MovesNear window (advanced to slots)
  unfolding advanced
  advanced_near window to slots ge le h =
      let most : run_end to (from to slots) ≤ window.start + 2048 = run_within to (window.start + 2048) (from to slots) le (below_from (window.start + 2048) to slots h) in
      let least : to ≤ run_end to (from to slots) = run_end_least to (from to slots) in (
        higher (window.start + 2048) (run_end to (from to slots) + 2048) (from (run_end to (from to slots)) slots) (omega (arith, least, ge)) (below_from (window.start + 2048) (run_end to (from to slots)) slots h),
        omega (arith, least, ge),
        most,
      )

  -- what moves doesn't depend on the greatest size
  abbrev sized : ℕ → Window T → Store T
  sized room window = record { room = room; window = window }

  pub stored_near : (window : Window T) (number size : ℕ) (item : T) (moved : Moved T) → IsNear window → 1 ≤ size → arrived window number size item ≡ Stored moved → MovesNear window moved
  stored_near window number size item moved near some e =
      let came = came_so (sized size window) number size item moved e in
      let ahead = came.comes.full_is in
      let less = came.comes.near in
      let to = came.comes.to_is in
      subst (λ (m : Moved T). MovesNear window m) came.moved_is
      (advanced_near window came.to (placed (record { number = came.at; item = item }) window.slots) (omega (arith, to)) (omega (arith, ahead, less, to, some))
      (below_placed (window.start + 2048) (record { number = came.at; item = item }) window.slots (omega (arith, ahead, less)) near))

  pub requested_near : (window : Window T) (start : ℕ) (moved : Moved T) → IsNear window → requested window start ≡ Some moved → MovesNear window moved
  requested_near window start moved near e =
      let asked = asked_so (sized 0 window) start moved e in
      subst (λ (m : Moved T). MovesNear window m) asked.moved_is (advanced_near window asked.to window.slots (omega (arith, asked.ahead)) (omega (arith, asked.near)) near)
