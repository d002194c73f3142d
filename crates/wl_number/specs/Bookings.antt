-- The bookings of an end, and what is found among them.
use Rattle.std.specs.Prelude.{◌≡◌, ℕ, ◌+◌, ◌≤◌, List, [], ◌∷◌, length, map}
use Rattle.std.specs.List.{All, Contains}
use Rattle.std.specs.Global.{Vec}
use Rattle.std.specs.Vec.{vec_len, vec_capacity}
use Rattle.wl_elem.specs.declared.lane.Lane.{Lane}
use Rattle.wl_elem.specs.Lanes.{lane_count}
use Rattle.wl_number.specs.declared.numbers.Numbers.{Numbers}
use Rattle.wl_number.specs.declared.numbers.BookFault.{BookFault}
use Rattle.wl_number.specs.declared.numbers.BookFault.TheVariants.{Wasted, Memory}
use Rattle.wl_number.specs.NumberObject.{InRange}
use Rattle.wl_number.specs.OrderRule.{OrderRule, list_at, list_of, NoneBreaks, LeastBreaks}

pub record Book : Type 0 where
  -- the bookings of each lane
  pub lanes : List (List Numbers)
  -- how many more can be booked without memory
  pub spare : ℕ

abbrev pub made : List (List Numbers) → ℕ → Book
made lanes spare = record { lanes = lanes; spare = spare }

abbrev pub no_bookings : List (List Numbers)
no_bookings = [] ∷ [] ∷ [] ∷ [] ∷ [] ∷ [] ∷ [] ∷ [] ∷ [] ∷ []

pub record IsBook (lanes : List (List Numbers)) : Type 0 where
  pub nine : length lanes ≡ lane_count
  pub rule : OrderRule lanes
  pub in_range : (place : ℕ) (n : Numbers) → Contains (list_at lanes place) n → InRange n

-- the lists that are kept
abbrev pub lists_of : List (Vec Numbers) → List (List Numbers)
lists_of kept = map (λ v. v.items) kept

-- each list has room for so many bookings more
abbrev pub HasRoom : List (Vec Numbers) → ℕ → Type 0
HasRoom kept spare = All (λ v. vec_len v + spare ≤ vec_capacity v) kept

pub record IsKept (kept : List (Vec Numbers)) (spare : ℕ) : Type 0 where
  pub book : IsBook (lists_of kept)
  pub room : HasRoom kept spare

-- why the numbers weren't booked: they break the rule, or they don't and there was no memory
abbrev pub IsFault : List (List Numbers) → Lane → Numbers → BookFault → Type 0
IsFault lanes lane n (Wasted presented kept) = (presented ≡ n) × LeastBreaks lanes lane n kept
IsFault lanes lane n Memory = NoneBreaks lanes lane n

abbrev pub booking_count : List (List Numbers) → ℕ
booking_count [] = 0
booking_count (list ∷ lanes) = length list + booking_count lanes

-- the numbers are booked on the lane at this position
pub record BookedAt (lanes : List (List Numbers)) (lane : Lane) (pos : ℕ) (n : Numbers) : Type 0 where
  pub booked : Contains (list_of lanes lane) n
  pub position : n.pos ≡ pos

-- a booking of the lane is at this position and has this pair
abbrev pub BookedWith : List (List Numbers) → Lane → ℕ → ℕ → ℕ → Type 0
BookedWith lanes lane pos key pn = Contains (list_of lanes lane) (record { pos = pos; key = key; pn = pn })
