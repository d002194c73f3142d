-- What comes of a frame and of a request, case by case.
use Rattle.std.proofs.Common.{◌≡◌, ◌≢◌, ℕ, suc, ◌+◌, ◌-◌, ◌^◌, ◌<◌, ◌≤◌, max, true, false, List, [], ◌∷◌, length, Some, None, refl, sym, ap, subst, ◌∙◌, arith}
use Rattle.std.proofs.lemmas.Bool.{lt-ltb, le-ltb, le-leb, lt-leb, ne_eqb}
use Rattle.wl_window.specs.declared.slot.Slot.{Slot}
use Rattle.wl_window.specs.Numbering.{distance, full}
use Rattle.wl_window.specs.Reordering.{Window, Store, Moved, Old, Doubled, Stored, holds, placed, IsRising, IsStore, advanced, arrived, requested, stored_numbers}
use Rattle.wl_window.proofs.Moving.{wider, rising_length, Moves, moves, placed_rising, placed_length}

module _ {T : Type 0} (window : Window T) where
  abbrev pub slot_of : ℕ → T → Slot T
  slot_of number item = record { number = full window.start number; item = item }

  abbrev pub stored_at : ℕ → ℕ → T → Moved T
  stored_at number size item = advanced (max window.start (full window.start number + 1 - size)) (placed (slot_of number item) window.slots)

  pub old_is : (number size : ℕ) (item : T) → 2048 ≤ distance window.start number → arrived window number size item ≡ Old
  unfolding arrived
  old_is number size item le = rw (le-leb (window.start + 2048) (full window.start number) (omega arith)) refl

  pub doubled_is : (number size : ℕ) (item : T) → distance window.start number < 2048 → holds (full window.start number) window.slots ≡ true → arrived window number size item ≡ Doubled
  unfolding arrived
  doubled_is number size item lt held = rw (lt-leb (window.start + 2048) (full window.start number) (omega arith), held) refl

  pub stored_is : (number size : ℕ) (item : T) → distance window.start number < 2048 → holds (full window.start number) window.slots ≡ false → arrived window number size item ≡ Stored (stored_at number size item)
  unfolding arrived
  stored_is number size item lt absent = rw (lt-leb (window.start + 2048) (full window.start number) (omega arith), absent) refl

  pub at_start : (start : ℕ) → distance window.start start ≡ 0 → requested window start ≡ None
  unfolding requested
  at_start start e = rw e refl

  pub behind_is : (start : ℕ) → 2048 ≤ distance window.start start → requested window start ≡ None
  unfolding requested
  behind_is start le = rw (ne_eqb (distance window.start start) 0 (λ e. omega arith), le-ltb (distance window.start start) 2048 le) refl

  pub requested_is : (start : ℕ) → distance window.start start ≢ 0 → distance window.start start < 2048 → requested window start ≡ Some (advanced (window.start + distance window.start start) window.slots)
  unfolding requested
  requested_is start ne lt = rw (ne_eqb (distance window.start start) 0 ne, lt-ltb (distance window.start start) 2048 lt) refl

-- a window that moved is sound
pub moved_sound : {T : Type 0} (room to high : ℕ) (slots : List (Slot T)) (moved : Moved T) → 1 ≤ room → room ≤ 1024 → high ≤ to + room → max to high < 2 ^ 32 → Moves to high slots moved → IsStore (record { room = room; window = moved.window })
moved_sound room to high slots moved some limit near below is = record {
  some_room = some;
  room_limit = limit;
  start_limit = omega (arith, is.most);
  rising = wider moved.window.slots (moved.window.start + 1) high (moved.window.start + 1) (moved.window.start + room) (omega arith) (omega (arith, is.least)) is.rising;
  bounded = omega (arith, is.least, rising_length moved.window.slots (moved.window.start + 1) high is.rising);
}

abbrev window_of : {T : Type 0} → ℕ → List (Slot T) → Window T
window_of start slots = record { start = start; slots = slots }

pub same_window : {T : Type 0} (start : ℕ) (slots : List (Slot T)) (window : Window T) → start ≡ window.start → slots ≡ window.slots → ◌≡◌ {A = Window T} (record { start = start; slots = slots }) window
same_window {T} start slots window p q = ap (λ (n : ℕ). window_of n slots) p ∙ ap (λ (l : List (Slot T)). window_of window.start l) q

-- a number that is stored, as it is put in
pub record Comes {T : Type 0} (store : Store T) (number size : ℕ) (item : T) (at to : ℕ) (slots : List (Slot T)) : Type 0 where
  pub full_is : at ≡ full store.window.start number
  pub near : distance store.window.start number < 2048
  pub absent : holds at store.window.slots ≡ false
  pub to_is : to ≡ max store.window.start (at + 1 - size)
  pub slots_are : slots ≡ placed (record { number = at; item = item }) store.window.slots

pub came : {T : Type 0} (store : Store T) (number size : ℕ) (item : T) (at to : ℕ) (slots : List (Slot T)) → Comes store number size item at to slots → arrived store.window number size item ≡ Stored (advanced to slots)
came {T} store number size item at to slots is =
    let absent : holds (full store.window.start number) store.window.slots ≡ false = ap (λ (n : ℕ). holds n store.window.slots) (sym is.full_is) ∙ is.absent in
    stored_is store.window number size item is.near absent
    ∙ ap (λ (n : ℕ). Stored (advanced (max store.window.start (n + 1 - size)) (placed (record { number = n; item = item }) store.window.slots))) (sym is.full_is)
    ∙ ap (λ (n : ℕ). Stored (advanced n (placed (record { number = at; item = item }) store.window.slots))) (sym is.to_is)
    ∙ ap (λ (l : List (Slot T)). Stored (advanced to l)) (sym is.slots_are)

-- the window before it moves, and after
pub record Sound {T : Type 0} (store : Store T) (to : ℕ) (slots : List (Slot T)) : Type 0 where
  pub rising : IsRising 0 (2 ^ 32 - 1) slots
  pub length_is : length slots ≡ suc (length store.window.slots)
  pub moved : IsStore (record { room = store.room; window = (advanced to slots).window })

pub came_sound : {T : Type 0} (store : Store T) (number size : ℕ) (item : T) (at to : ℕ) (slots : List (Slot T)) → IsStore store → store.window.start < 2 ^ 32 - 4096 → 1 ≤ size → size ≤ store.room → Comes store number size item at to slots → Sound store to slots
came_sound {T} store number size item at to slots sound start some fits is =
    let high = max (store.window.start + store.room) (at + 1) in
    let near : at < store.window.start + 2048 = omega (arith, is.full_is, is.near) in
    let ahead : store.window.start ≤ at = omega (arith, is.full_is) in
    let limit : store.room ≤ 1024 = sound.room_limit in
    let before : IsRising store.window.start high store.window.slots = wider store.window.slots (store.window.start + 1) (store.window.start + store.room) store.window.start high (omega arith) (omega arith) sound.rising in
    let after : IsRising store.window.start high slots =
    subst (λ (l : List (Slot T)). IsRising store.window.start high l) (sym is.slots_are) (placed_rising (record { number = at; item = item }) store.window.slots store.window.start high before ahead (omega arith) is.absent) in
    let to_is = is.to_is in
    record {
      rising = wider slots store.window.start high 0 (2 ^ 32 - 1) (omega arith) (omega arith) after;
      length_is = ap length is.slots_are ∙ placed_length (record { number = at; item = item }) store.window.slots;
      moved = moved_sound store.room to high slots (advanced to slots) sound.some_room limit (omega arith) (omega arith) (moves slots to store.window.start high after);
    }

-- a request moves the window to `to`
pub request_sound : {T : Type 0} (store : Store T) (to : ℕ) → IsStore store → store.window.start < 2 ^ 32 - 4096 → store.window.start ≤ to → to < store.window.start + 2048 → IsRising 0 (2 ^ 32 - 1) store.window.slots × IsStore (record { room = store.room; window = (advanced to store.window.slots).window })
request_sound store to sound start ahead near =
    let limit : store.room ≤ 1024 = sound.room_limit in
    let high = store.window.start + store.room in (
      wider store.window.slots (store.window.start + 1) high 0 (2 ^ 32 - 1) (omega arith) (omega arith) sound.rising,
      moved_sound store.room to high store.window.slots (advanced to store.window.slots) sound.some_room limit (omega arith) (omega arith) (moves store.window.slots to (store.window.start + 1) high sound.rising),
    )

pub stored_length : {T : Type 0} (slots : List (Slot T)) → length (stored_numbers slots) ≡ length slots
stored_length [] = refl
stored_length (slot ∷ slots) = ap suc (stored_length slots)
