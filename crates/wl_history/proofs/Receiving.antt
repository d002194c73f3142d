-- What a lane receives: whatever holds of each item that comes, holds of each that is stored or
-- released, and the released ones rise by key and packet number.
use Rattle.std.proofs.Common.{◌≡◌, ℕ, ◌+◌, ◌-◌, Bool, true, false, List, [], ◌∷◌, Option, Some, None, refl}
use Rattle.std.specs.Prelude.{◌==◌, nat_lt, nat_le, max, if◌then◌else◌}
use Rattle.std.specs.List.{AllByRecursion}
use Rattle.wl_number.specs.declared.numbers.Numbers.{Numbers}
use Rattle.wl_number.specs.OrderRule.{is_below}
use Rattle.wl_window.specs.declared.slot.Slot.{Slot}
use Rattle.wl_window.specs.Numbering.{full, distance}
use Rattle.wl_window.specs.Reordering.{Window, holds, placed, below, from, items, run_end, Moved, Arrived, Old, Doubled, Stored, advanced, arrived, requested}
use Rattle.wl_history.specs.declared.arrival.Arrival.{Arrival}
use Rattle.wl_history.specs.Words.{Receiving, is_new, release, release_all, passed, taken, passed_if}

pub every : {A : Type 0} (P Q : A → Type 0) → ((x : A) → P x → Q x) → (xs : List A) → AllByRecursion P xs → AllByRecursion Q xs
every P Q f [] h = tt
every P Q f (x ∷ xs) h = (f x h.0, every P Q f xs h.1)

module _ (Good : Arrival → Type 0) where
  abbrev pub Kept : List (Slot Arrival) → Type 0
  Kept slots = AllByRecursion (λ (slot : Slot Arrival). Good slot.item) slots

  kept_placed : (new : Slot Arrival) (slots : List (Slot Arrival)) → Good new.item → Kept slots → Kept (placed new slots)
  kept_placed new [] good h = (good, tt)
  kept_placed new (slot ∷ slots) good h =
      elim (nat_lt new.number slot.number) as (λ (b : Bool). Kept (if b then new ∷ slot ∷ slots else slot ∷ placed new slots)) [
        | true ↦ (good, h)
        | false ↦ (h.0, kept_placed new slots good h.1)
      ]

  kept_below : (to : ℕ) (slots : List (Slot Arrival)) → Kept slots → Kept (below to slots)
  kept_below to [] h = tt
  kept_below to (slot ∷ slots) h =
      elim (nat_lt slot.number to) as (λ (b : Bool). Kept (if b then slot ∷ below to slots else below to slots)) [
        | true ↦ (h.0, kept_below to slots h.1)
        | false ↦ kept_below to slots h.1
      ]

  kept_from : (to : ℕ) (slots : List (Slot Arrival)) → Kept slots → Kept (from to slots)
  kept_from to [] h = tt
  kept_from to (slot ∷ slots) h =
      elim (nat_lt slot.number to) as (λ (b : Bool). Kept (if b then from to slots else slot ∷ from to slots)) [
        | true ↦ kept_from to slots h.1
        | false ↦ (h.0, kept_from to slots h.1)
      ]

  kept_items : (slots : List (Slot Arrival)) → Kept slots → AllByRecursion Good (items slots)
  kept_items [] h = tt
  kept_items (slot ∷ slots) h = (h.0, kept_items slots h.1)

  pub record KeptMoved (moved : Moved Arrival) : Type 0 where
    pub up : AllByRecursion Good moved.up
    pub stays : Kept moved.window.slots

  kept_advanced : (to : ℕ) (slots : List (Slot Arrival)) → Kept slots → KeptMoved (advanced to slots)
  unfolding advanced
  kept_advanced to slots h = record {
    up = kept_items (below (run_end to (from to slots)) slots) (kept_below (run_end to (from to slots)) slots h);
    stays = kept_from (run_end to (from to slots)) slots h;
  }

  -- what is stored and goes up was there, or came
  abbrev pub KeptArrived : Arrived Arrival → Type 0
  KeptArrived Old = Unit {0}
  KeptArrived Doubled = Unit {0}
  KeptArrived (Stored moved) = KeptMoved moved

  kept_two : (old doubled : Bool) (moved : Moved Arrival) → KeptMoved moved → KeptArrived (if old then Old else (if doubled then Doubled else Stored moved))
  kept_two true doubled moved h = tt
  kept_two false true moved h = tt
  kept_two false false moved h = h

  pub kept_arrived : (w : Window Arrival) (number size : ℕ) (item : Arrival) → Good item → Kept w.slots → KeptArrived (arrived w number size item)
  unfolding arrived
  kept_arrived w number size item good h =
      kept_two (nat_le (w.start + 2048) (full w.start number)) (holds (full w.start number) w.slots) _
      (kept_advanced (max w.start (full w.start number + 1 - size)) (placed (record { number = full w.start number; item = item }) w.slots) (kept_placed (record { number = full w.start number; item = item }) w.slots good h))

  abbrev pub KeptIf : Option (Moved Arrival) → Type 0
  KeptIf None = Unit {0}
  KeptIf (Some moved) = KeptMoved moved

  kept_asked : (none near : Bool) (moved : Moved Arrival) → KeptMoved moved → KeptIf (if none then None else (if near then Some moved else None))
  kept_asked true near moved h = tt
  kept_asked false true moved h = h
  kept_asked false false moved h = tt

  kept_requested : (w : Window Arrival) (start : ℕ) → Kept w.slots → KeptIf (requested w start)
  unfolding requested
  kept_requested w start h = kept_asked (distance w.start start == 0) (nat_lt (distance w.start start) 2048) _ (kept_advanced (w.start + distance w.start start) w.slots h)

  released_kept : (item : Arrival) (released : List Arrival) → Good item → AllByRecursion Good released → AllByRecursion Good (release item released)
  released_kept item released good h =
      elim (is_new item.numbers released) as (λ (b : Bool). AllByRecursion Good (if b then item ∷ released else released)) [
        | true ↦ (good, h)
        | false ↦ h
      ]

  all_released_kept : (up released : List Arrival) → AllByRecursion Good up → AllByRecursion Good released → AllByRecursion Good (release_all up released)
  all_released_kept [] released u h = h
  all_released_kept (item ∷ up) released u h = all_released_kept up (release item released) u.1 (released_kept item released u.0 h)

-- ---- the order of what is released

-- the released items, the latest first, rise by pair
abbrev pub Rising : List Arrival → Type 0
Rising [] = Unit {0}
Rising (item ∷ before) = AllByRecursion (λ (other : Arrival). is_below other.numbers item.numbers ≡ true) before × Rising before

abbrev pub Trans : Type 0
Trans = (a b c : Numbers) → is_below a b ≡ true → is_below b c ≡ true → is_below a c ≡ true

-- what is above the last is above all
above_all : Trans → (n : Numbers) (released : List Arrival) → Rising released → is_new n released ≡ true → AllByRecursion (λ (other : Arrival). is_below other.numbers n ≡ true) released
above_all trans n [] h above = tt
above_all trans n (last ∷ before) h above = (above, every _ _ (λ other is. trans other.numbers last.numbers n is above) before h.0)

rising_released : Trans → (item : Arrival) (released : List Arrival) → Rising released → Rising (release item released)
rising_released trans item released h = go (is_new item.numbers released) refl
  where
    go : (b : Bool) → is_new item.numbers released ≡ b → Rising (if b then item ∷ released else released)
    go true e = (above_all trans item.numbers released h e, h)
    go false e = h

all_rising : Trans → (up released : List Arrival) → Rising released → Rising (release_all up released)
all_rising trans [] released h = h
all_rising trans (item ∷ up) released h = all_rising trans up (release item released) (rising_released trans item released h)

-- ---- both

pub record Got (Good : Arrival → Type 0) (r : Receiving) : Type 0 where
  pub stored : Kept Good r.window.slots
  pub released_good : AllByRecursion Good r.released
  pub rising : Rising r.released

got_passed : (Good : Arrival → Type 0) → Trans → (moved : Moved Arrival) (r : Receiving) → KeptMoved Good moved → Got Good r → Got Good (passed moved r)
got_passed Good trans moved r k g = record {
  stored = k.stays;
  released_good = all_released_kept Good moved.up r.released k.up g.released_good;
  rising = all_rising trans moved.up r.released g.rising;
}

got_taken_as : (Good : Arrival → Type 0) → Trans → (come : Arrived Arrival) (r : Receiving) → KeptArrived Good come → Got Good r → Got Good (taken come r)
got_taken_as Good trans Old r k g = g
got_taken_as Good trans Doubled r k g = g
got_taken_as Good trans (Stored moved) r k g = got_passed Good trans moved r k g

got_asked_as : (Good : Arrival → Type 0) → Trans → (asked : Option (Moved Arrival)) (r : Receiving) → KeptIf Good asked → Got Good r → Got Good (passed_if asked r)
got_asked_as Good trans None r k g = g
got_asked_as Good trans (Some moved) r k g = got_passed Good trans moved r k g

pub got_asked : (Good : Arrival → Type 0) → Trans → (r : Receiving) (start : ℕ) → Got Good r → Got Good (passed_if (requested r.window start) r)
got_asked Good trans r start g = got_asked_as Good trans (requested r.window start) r (kept_requested Good r.window start g.stored) g

pub got_taken : (Good : Arrival → Type 0) → Trans → (r : Receiving) (number size : ℕ) (item : Arrival) → Good item → Got Good r → Got Good (taken (arrived r.window number size item) r)
got_taken Good trans r number size item good g = got_taken_as Good trans (arrived r.window number size item) r (kept_arrived Good r.window number size item good g.stored) g

pub got_still : (P Q : Arrival → Type 0) → ((item : Arrival) → P item → Q item) → (r : Receiving) → Got P r → Got Q r
got_still P Q f r g = record {
  stored = every _ _ (λ slot good. f slot.item good) r.window.slots g.stored;
  released_good = every P Q f r.released g.released_good;
  rising = g.rising;
}
