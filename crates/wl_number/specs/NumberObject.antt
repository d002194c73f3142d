-- What an end numbers its protected frames from. Under one temporal key the packet number rises by
-- one with each frame and never repeats (IEEE Std 802.11, 12.5.3.3).
use Rattle.std.specs.Prelude.{◌≡◌, ℕ, ◌+◌, ◌-◌, ◌^◌, ◌<◌, ◌≤◌, ◌==◌, nat_lt, max, if◌then◌else◌, Bool, List, [], ◌∷◌, length, slice_index, slice_set}
use Rattle.std.specs.List.{AllByRecursion}
use Rattle.wl_elem.specs.declared.lane.Lane.{Lane}
use Rattle.wl_elem.specs.Lanes.{lane_index, lane_count}
use Rattle.wl_number.specs.declared.numbers.Numbers.{Numbers}

-- the numbers are in their ranges
pub record InRange (n : Numbers) : Type 0 where
  pub position : n.pos < 2 ^ 32
  pub key : n.key < 2 ^ 16
  pub some : 1 ≤ n.pn
  pub bound : n.pn < 2 ^ 48

pub record NumberObject : Type 0 where
  -- the next position of each lane, in the order of `lane_index`
  pub positions : List ℕ
  -- the key in use
  pub key : ℕ
  -- the last packet number used under the key, 0 where none is
  pub last : ℕ

abbrev pub made : List ℕ → ℕ → ℕ → NumberObject
made positions key last = record { positions = positions; key = key; last = last }

pub record IsNumberObject (o : NumberObject) : Type 0 where
  pub nine : length o.positions ≡ lane_count
  pub positions : AllByRecursion (λ position. position < 2 ^ 32) o.positions
  pub key : o.key < 2 ^ 16
  pub last : o.last < 2 ^ 48

-- nothing is drawn yet, and this packet number is next
abbrev pub opened : ℕ → ℕ → NumberObject
opened key next_pn = made (0 ∷ 0 ∷ 0 ∷ 0 ∷ 0 ∷ 0 ∷ 0 ∷ 0 ∷ 0 ∷ []) key (next_pn - 1)

abbrev pub position_of : NumberObject → Lane → ℕ
position_of o lane = slice_index o.positions (lane_index lane)

-- the last packet number of the key is used
abbrev pub is_spent : NumberObject → Bool
is_spent o = o.last == 2 ^ 48 - 1

-- the numbers that a draw on the lane gives
abbrev pub drawn : NumberObject → Lane → Numbers
drawn o lane = record { pos = position_of o lane; key = o.key; pn = o.last + 1 }

abbrev pub after_draw : NumberObject → Lane → NumberObject
after_draw o lane = made (slice_set o.positions (lane_index lane) (position_of o lane + 1)) o.key (o.last + 1)

-- the next key, with no packet number used
abbrev pub turned : NumberObject → NumberObject
turned o = made o.positions (o.key + 1) 0

-- the last packet number used once this one is booked under this key
abbrev pub last_with : NumberObject → ℕ → ℕ → ℕ
last_with o key pn = if nat_lt o.key key then pn else (if key == o.key then max o.last pn else o.last)

-- once these numbers are booked on the lane
abbrev pub entered : NumberObject → Lane → Numbers → NumberObject
entered o lane n = made (slice_set o.positions (lane_index lane) (max (position_of o lane) (n.pos + 1))) (max o.key n.key) (last_with o n.key n.pn)

-- once a turn to this key is made
abbrev pub turned_to : NumberObject → ℕ → NumberObject
turned_to o key = made o.positions (max o.key key) (if nat_lt o.key key then 0 else o.last)
