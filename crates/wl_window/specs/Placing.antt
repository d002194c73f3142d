-- For private contracts alone: what the parts of a window's calls find and leave.
use Rattle.std.specs.Prelude.{◌≡◌, ℕ, ◌<◌, ◌≤◌, false, List, [], ◌∷◌, length, Option, Some, None}
use Rattle.std.specs.List.{insert}
use Rattle.wl_window.specs.Reordering.{holds, placed}
use Rattle.wl_window.specs.declared.slot.Slot.{Slot}

module _ {T : Type 0} where
  -- no slot has the number, and this is the place for it
  pub record IsGap (number : ℕ) (slots : List (Slot T)) (place : ℕ) : Type 0 where
    pub within : place ≤ length slots
    pub absent : holds number slots ≡ false
    pub put : (item : T) → let slot : Slot T = record { number = number; item = item } in placed slot slots ≡ insert slots place slot

  -- the first slot's number is past the start
  abbrev pub IsPast : ℕ → List (Slot T) → Type 0
  IsPast start [] = Unit {0}
  IsPast start (slot ∷ slots) = start < slot.number

  -- the first slot that was taken, or that its number is past the start
  abbrev pub Takes : ℕ → List (Slot T) → Option (Slot T) → List (Slot T) → Type 0
  Takes start old None new = IsPast start old × (new ≡ old)
  Takes start old (Some slot) new = (slot.number ≤ start) × (old ≡ slot ∷ new)
