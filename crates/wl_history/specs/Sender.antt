-- What holds of an end that sends: its bookings keep their order and lie below the numbers that come
-- next, each is of a queued body, and hands hold what is booked.
use Rattle.std.specs.Prelude.{◌≡◌, ℕ, ◌+◌, ◌<◌, ◌≤◌, ◌==◌, ◌||◌, Bool, false, List, [], ◌∷◌, length, slice_index_or}
use Rattle.std.specs.List.{Contains}
use Rattle.wl_elem.specs.declared.lane.Lane.{Lane}
use Rattle.wl_elem.specs.Lanes.{lane_count, IsLane}
use Rattle.wl_number.specs.declared.numbers.Numbers.{Numbers}
use Rattle.wl_number.specs.NumberObject.{NumberObject}
use Rattle.wl_elem.specs.Pairs.{pair_below}
use Rattle.wl_number.specs.OrderRule.{OrderRule, list_at, list_of}
use Rattle.wl_window.specs.Originating.{Sending, is_booked, booked_count}
use Rattle.wl_history.specs.declared.hand.Hand.{Hand}
use Rattle.wl_history.specs.declared.hand.Hand.TheVariants as hand
use Rattle.wl_history.specs.Hands.{hand_of, reserve_count}

-- the same bookings, with other reserves
pub record Regranted (s t : Sending) : Type 0 where
  pub base : t.base ≡ s.base
  pub marks : t.marks ≡ s.marks

-- a booking of a lane that a hand may hold
abbrev pub IsHeld : List (List Numbers) → Lane → Numbers → Type 0
IsHeld lanes lane n = Contains (list_of lanes lane) n × IsLane lane

abbrev pub has_position : ℕ → List Numbers → Bool
has_position pos [] = false
has_position pos (n ∷ ns) = n.pos == pos || has_position pos ns

-- The queues and the windows are given by a lane's place among the nine.
pub record IsSender (queue : ℕ → List (List ℕ)) (hands : List Hand) (o : NumberObject) (lanes : List (List Numbers)) (sending : ℕ → Sending) : Type 0 where
  pub nine : length lanes ≡ lane_count
  pub nine_positions : length o.positions ≡ lane_count
  pub rule : OrderRule lanes
  -- no pair is above that of the last number drawn
  pub last : (place : ℕ) (n : Numbers) → Contains (list_at lanes place) n → pair_below o.key o.last n.key n.pn ≡ false
  -- the position that comes next on a lane is above all that are booked, and each of these is of a queued body
  pub above : (l : ℕ) (n : Numbers) → Contains (list_at lanes l) n → n.pos < slice_index_or o.positions l 0
  pub queued : (l : ℕ) (n : Numbers) → Contains (list_at lanes l) n → n.pos < length (queue l)
  -- the window knows which are booked
  pub marked : (l pos : ℕ) → is_booked (sending l) pos ≡ has_position pos (list_at lanes l)
  pub numbered : (l : ℕ) → booked_count (sending l) ≡ length (list_at lanes l)
  -- each reserve that was granted is held or booked, and there are no more of them than queued bodies
  pub counted : (l : ℕ) → (sending l).granted ≡ reserve_count l hands + length (list_at lanes l)
  pub within : (l : ℕ) → (sending l).granted ≤ length (queue l)
  pub held : (thread : ℕ) (lane : Lane) (n : Numbers) → hand_of hands thread ≡ hand.Booking lane n → IsHeld lanes lane n
  pub of_lanes : (thread : ℕ) (lane : Lane) → hand_of hands thread ≡ hand.Reserve lane → IsLane lane

-- No position is left out: as many are booked on each lane as lie below the one that comes next. A booking of
-- the next numbers rests on it, since so its position is one of the queue; what else holds of a sender doesn't.
pub record IsGapless (o : NumberObject) (lanes : List (List Numbers)) : Type 0 where
  pub next : (l : ℕ) → slice_index_or o.positions l 0 ≡ length (list_at lanes l)
