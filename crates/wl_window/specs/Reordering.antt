-- The receive reordering buffer of a block ack agreement (IEEE Std 802.11, 10.25.6).
use Rattle.std.specs.Prelude.{ℕ, ◌+◌, ◌-◌, ◌^◌, ◌%◌, ◌<◌, ◌≤◌, ◌==◌, nat_lt, nat_le, max, Bool, false, ◌||◌, if◌then◌else◌, List, [], ◌∷◌, length, Option, Some, None, Result, Ok, Err}
use Rattle.std.specs.List.{AllByRecursion}
use Rattle.wl_window.specs.Numbering.{distance, full}
use Rattle.wl_window.specs.Queue.{Queue, received}
use Rattle.wl_window.specs.declared.slot.Slot.{Slot}
use Rattle.wl_window.specs.declared.refusal.ArriveRefusal.{ArriveRefusal}
use Rattle.wl_window.specs.declared.refusal.ArriveRefusal.TheVariants.{OldNumber, Double}

-- ---- what is stored

-- where a window starts, and what is stored in it, by rising full number
pub record Window (T : Type 0) : Type 0 where
  pub start : ℕ
  pub slots : List (Slot T)

-- a window, and the greatest size that it may have
pub record Store (T : Type 0) : Type 0 where
  pub room : ℕ
  pub window : Window T

module _ {T : Type 0} where
  -- a slot has the number
  abbrev pub holds : ℕ → List (Slot T) → Bool
  holds number [] = false
  holds number (slot ∷ slots) = slot.number == number || holds number slots

  -- a slot put in by its number
  abbrev pub placed : Slot T → List (Slot T) → List (Slot T)
  placed new [] = new ∷ []
  placed new (slot ∷ slots) = if nat_lt new.number slot.number then new ∷ slot ∷ slots else slot ∷ placed new slots

  -- the slots of lower numbers
  abbrev pub below : ℕ → List (Slot T) → List (Slot T)
  below to [] = []
  below to (slot ∷ slots) = if nat_lt slot.number to then slot ∷ below to slots else below to slots

  -- the other slots
  abbrev pub from : ℕ → List (Slot T) → List (Slot T)
  from to [] = []
  from to (slot ∷ slots) = if nat_lt slot.number to then from to slots else slot ∷ from to slots

  abbrev pub items : List (Slot T) → List T
  items [] = []
  items (slot ∷ slots) = slot.item ∷ items slots

  -- the first number from `start` on that no slot has, where the slots rise from `start` on
  abbrev pub run_end : ℕ → List (Slot T) → ℕ
  run_end start [] = start
  run_end start (slot ∷ slots) = if slot.number == start then run_end (start + 1) slots else start

  -- the slots rise strictly, from `low` on and below `high`
  abbrev pub IsRising : ℕ → ℕ → List (Slot T) → Type 0
  IsRising low high [] = Unit {0}
  IsRising low high (slot ∷ slots) = (low ≤ slot.number) × (slot.number < high) × IsRising (slot.number + 1) high slots

-- Numbers are stored above the start, which was not received, and within the greatest size.
pub record IsStore {T : Type 0} (store : Store T) : Type 0 where
  pub some_room : 1 ≤ store.room
  pub room_limit : store.room ≤ 1024
  pub start_limit : store.window.start < 2 ^ 32
  pub rising : IsRising (store.window.start + 1) (store.window.start + store.room) store.window.slots
  -- so fewer are stored than the greatest size
  pub bounded : length store.window.slots < store.room

-- all slots have lower numbers
abbrev pub AllBelow : {T : Type 0} → ℕ → List (Slot T) → Type 0
AllBelow high slots = AllByRecursion (λ slot. slot.number < high) slots

-- what is stored lies less than half the number space ahead of the start
abbrev pub IsNear : {T : Type 0} → Window T → Type 0
IsNear window = AllBelow (window.start + 2048) window.slots

-- ---- how the window moves

-- what goes up, in order, and the window then
pub record Moved (T : Type 0) : Type 0 where
  pub up : List T
  pub window : Window T

-- a window moved on, by at most half the number space, and what it stores then is near
abbrev pub MovesNear : {T : Type 0} → Window T → Moved T → Type 0
MovesNear window moved = IsNear moved.window × (window.start ≤ moved.window.start) × (moved.window.start ≤ window.start + 2048)

-- what comes of a frame: its number is behind the window, is stored already, or its item is stored
pub data Arrived (T : Type 0) : Type 0 where
  Old : Arrived T
  Doubled : Arrived T
  Stored : Moved T → Arrived T

module _ {T : Type 0} where
  -- the window moves to `to`: what is below goes up, and then the run of numbers from there on
  unfoldable pub advanced : ℕ → List (Slot T) → Moved T
  advanced to slots = let end = run_end to (from to slots) in record { up = items (below end slots); window = record { start = end; slots = from end slots } }

  -- A frame with these 12 bits, where the window has this size. Numbers from half of the number space
  -- ahead on are behind the window. A number past the window moves it, so that it is the last one.
  unfoldable pub arrived : Window T → ℕ → ℕ → T → Arrived T
  arrived window number size item =
      let at = full window.start number in
      if nat_le (window.start + 2048) at then Old
      else (if holds at window.slots then Doubled
      else Stored (advanced (max window.start (at + 1 - size)) (placed (record { number = at; item = item }) window.slots)))

  -- a request to move the window to these 12 bits, which are ahead of its start by less than half of
  -- the number space
  unfoldable pub requested : Window T → ℕ → Option (Moved T)
  requested window start =
      let ahead = distance window.start start in
      if ahead == 0 then None
      else (if nat_lt ahead 2048 then Some (advanced (window.start + ahead) window.slots) else None)

  -- the 12 bits of what is stored, in order
  abbrev pub stored_numbers : List (Slot T) → List ℕ
  stored_numbers [] = []
  stored_numbers (slot ∷ slots) = slot.number % 4096 ∷ stored_numbers slots

-- ---- what calls answer and leave

module _ {T : Type 0} where
  abbrev pub answer : T → Arrived T → Result (Unit {0}) (ArriveRefusal T)
  answer item Old = Err (OldNumber item)
  answer item Doubled = Err (Double item)
  answer item (Stored moved) = Ok tt

  -- how many items go up
  abbrev pub up_count : Arrived T → ℕ
  up_count Old = 0
  up_count Doubled = 0
  up_count (Stored moved) = length moved.up

  abbrev pub window_after : Window T → Arrived T → Window T
  window_after window Old = window
  window_after window Doubled = window
  window_after window (Stored moved) = moved.window

  abbrev pub queue_after : Queue T → Arrived T → Queue T
  queue_after queue Old = queue
  queue_after queue Doubled = queue
  queue_after queue (Stored moved) = received queue moved.up

  -- how many items go up of a request
  abbrev pub up_count_requested : Option (Moved T) → ℕ
  up_count_requested None = 0
  up_count_requested (Some moved) = length moved.up

  abbrev pub window_requested : Window T → Option (Moved T) → Window T
  window_requested window None = window
  window_requested window (Some moved) = moved.window

  abbrev pub queue_requested : Queue T → Option (Moved T) → Queue T
  queue_requested queue None = queue
  queue_requested queue (Some moved) = received queue moved.up
