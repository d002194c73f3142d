-- What each command is answered, from the states before it, and what a put airs.
use Rattle.std.specs.Prelude.{ℕ, ◌+◌, ◌==◌, ◌%◌, if◌then◌else◌, Bool, true, false, List, [], ◌∷◌, ◌++◌, Option, Some, None, Result, Ok, Err}
use Rattle.wl_elem.specs.declared.lane.Lane.{Lane}
use Rattle.wl_elem.specs.Lanes.{lane_index}
use Rattle.wl_frame.specs.Sealing.{Sealing}
use Rattle.wl_number.specs.declared.numbers.Numbers.{Numbers}
use Rattle.wl_number.specs.NumberObject.{NumberObject, is_spent, drawn}
use Rattle.wl_number.specs.OrderRule.{list_of}
use Rattle.wl_replay.specs.Replay.{last_of}
use Rattle.wl_window.specs.Reordering.{Window, Moved, stored_numbers}
use Rattle.wl_window.specs.Originating.{Sending, Acked, is_done, reserved}
use Rattle.wl_window.specs.declared.refusal.MoveRefusal.{MoveRefusal}
use Rattle.wl_window.specs.declared.refusal.MoveRefusal.TheVariants as moves
use Rattle.wl_window.specs.declared.refusal.OriginRefusal.{OriginRefusal}
use Rattle.wl_window.specs.declared.refusal.OriginRefusal.TheVariants.{NothingQueued, WindowFull}
use Rattle.wl_history.specs.declared.outcome.Outcome.{Outcome}
use Rattle.wl_history.specs.declared.outcome.Outcome.TheVariants as outcomes
use Rattle.wl_history.specs.declared.outcome.KeptWhy.{KeptWhy}
use Rattle.wl_history.specs.declared.hand.Hand.{Hand}
use Rattle.wl_history.specs.declared.hand.Hand.TheVariants as hand
use Rattle.wl_history.specs.declared.arrival.Arrival.{Arrival}
use Rattle.wl_history.specs.declared.ack.Ack.{Ack}
use Rattle.wl_history.specs.declared.ack.Bar.{Bar}
use Rattle.wl_history.specs.Ends.{why_kept}
use Rattle.wl_history.specs.Words.{Airing, body_at}
use Rattle.wl_history.specs.Hearing.{octets_of}
use Rattle.wl_history.specs.EndState.{LaneState, EndState, lane_at, was_aired_at, acked_by, let_up, given_by, moved_by}

-- key numbers have 16 bits
abbrev pub last_key : ℕ
last_key = 65535

abbrev pub is_empty : Hand → Bool
is_empty hand.Empty = true
is_empty (hand.Reserve lane) = false
is_empty (hand.Booking lane numbers) = false

abbrev pub granted_outcome : Result Sending OriginRefusal → Outcome
granted_outcome (Ok sending) = outcomes.Reserved
granted_outcome (Err NothingQueued) = outcomes.NothingQueued
granted_outcome (Err WindowFull) = outcomes.WindowFull

-- a reserve, for this hand, of a lane with so many bodies queued and this send size
abbrev pub reserve_answer : Hand → ℕ → Sending → ℕ → Outcome
reserve_answer held queued sending size =
    if is_empty held then granted_outcome (reserved sending queued size) else outcomes.HandFull

-- a booking, for this hand and these numbers
abbrev pub book_answer : Hand → NumberObject → Outcome
book_answer (hand.Reserve lane) numbers = if is_spent numbers then outcomes.Spent lane else outcomes.Booked lane (drawn numbers lane)
book_answer other numbers = outcomes.NoReserve

-- a booking that may go over the link, or may not for a reason
abbrev pub put_if : Lane → Numbers → Bool → Option KeptWhy → Outcome
put_if lane numbers was_aired None = outcomes.Put lane numbers was_aired
put_if lane numbers was_aired (Some why) = outcomes.Kept lane numbers.pos why

-- a put of this booking, done or not, aired before or not, where it is kept for a reason or not
abbrev pub put_answer : Lane → Numbers → Bool → Bool → Option KeptWhy → Outcome
put_answer lane numbers is_done was_aired why = if is_done then outcomes.Nothing else put_if lane numbers was_aired why

-- a put over a link, for what the hand holds
abbrev pub put_of : ℕ → Hand → EndState → Outcome
put_of link (hand.Booking lane n) s = put_answer lane n (is_done (lane_at s (lane_index lane)).sending n.pos) (was_aired_at (lane_at s (lane_index lane)).aired n.pos) (why_kept s.start.end s.setup lane link)
put_of link other s = outcomes.Nothing

abbrev pub airing : ℕ → Lane → Numbers → Bool → List ℕ → Airing
airing link lane n retry body = record { link = link; lane = lane; numbers = n; retry = retry; body = body }

-- the airing of a booking over a link, from what is kept of its lane
abbrev pub airing_of : ℕ → Lane → Numbers → LaneState → Airing
airing_of link lane n kept = airing link lane n (was_aired_at kept.aired n.pos) (body_at kept.queue n.pos)

-- the octets that a put airs, where it airs any
abbrev pub aired_octets : Sealing → ℕ → Hand → EndState → List ℕ
aired_octets text link (hand.Booking lane n) s = octets_of text s.start s.start.end (airing_of link lane n (lane_at s (lane_index lane)))
aired_octets text link other s = []

-- the numbers booked at a position of a lane
abbrev pub at_position : ℕ → List Numbers → Option Numbers
at_position pos [] = None
at_position pos (n ∷ ns) = if n.pos == pos then Some n else at_position pos ns

abbrev pub booked_at : EndState → Lane → ℕ → Option Numbers
booked_at s lane pos = at_position pos (list_of s.booked lane)

abbrev pub again_if : Numbers → Bool → Option KeptWhy → Outcome
again_if numbers was_aired None = outcomes.PutAgain numbers was_aired
again_if numbers was_aired (Some why) = outcomes.KeptAgain why

-- an airing of this booking, done or not, aired before or not, where it is kept for a reason or not
abbrev pub again_answer : Numbers → Bool → Bool → Option KeptWhy → Outcome
again_answer numbers is_done was_aired why = if is_done then outcomes.Nothing else again_if numbers was_aired why

-- an airing of a booking that was named
abbrev pub again_of : ℕ → Lane → Option Numbers → EndState → Outcome
again_of link lane None s = outcomes.Nothing
again_of link lane (Some n) s = again_answer n (is_done (lane_at s (lane_index lane)).sending n.pos) (was_aired_at (lane_at s (lane_index lane)).aired n.pos) (why_kept s.start.end s.setup lane link)

-- the octets that it airs, where it airs any
abbrev pub octets_again : Sealing → ℕ → Lane → Option Numbers → EndState → List ℕ
octets_again text link lane None s = []
octets_again text link lane (Some n) s = octets_of text s.start s.start.end (airing_of link lane n (lane_at s (lane_index lane)))

-- an acknowledgement of a lane with this window
abbrev pub ack_out_answer : Window Arrival → Outcome
ack_out_answer w = outcomes.Acked (w.start % 4096) (stored_numbers w.slots)

-- the acknowledgements that an end made, with one more of this lane
abbrev pub acks_made : Lane → Outcome → List Ack → List Ack
acks_made lane (outcomes.Acked start stored) old = old ++ record { lane = lane; start = start; stored = stored } ∷ []
acks_made lane other old = old

-- positions that are given up, or why they can't be
abbrev pub given_answer : Result Sending MoveRefusal → Outcome
given_answer (Ok sending) = outcomes.Barred (sending.base % 4096)
given_answer (Err moves.NotBooked) = outcomes.NotBooked
given_answer (Err moves.Behind) = outcomes.Behind

abbrev pub bar_out_answer : Lane → ℕ → EndState → Outcome
bar_out_answer lane to s = given_answer (given_by lane to s)

-- the requests that an end made, with one more of this lane
abbrev pub bars_made : Lane → Outcome → List Bar → List Bar
bars_made lane (outcomes.Barred start) old = old ++ record { lane = lane; start = start } ∷ []
bars_made lane other old = old

-- a window that moves as it was asked, or is past that
abbrev pub moved_answer : Bar → Option (Moved Arrival) → EndState → Outcome
moved_answer bar None s = outcomes.OldBar
moved_answer bar (Some moved) s = outcomes.Moved bar.lane bar.start (let_up (last_of s.last bar.lane) moved.up).positions

-- a request that is taken, where it is there, at the lane that it names
abbrev pub bar_answer : Option Bar → EndState → Outcome
bar_answer None s = outcomes.NotThere
bar_answer (Some bar) s = moved_answer bar (moved_by bar s) s

-- the next key is installed where this is the newest
abbrev pub install_answer : ℕ → Outcome
install_answer newest = if newest == last_key then outcomes.KeysSpent else outcomes.Installed (newest + 1)

-- a turn of these numbers' key
abbrev pub turn_answer : NumberObject → Outcome
turn_answer numbers = if numbers.key == last_key then outcomes.KeysSpent else outcomes.Turned (numbers.key + 1)

abbrev pub taken_answer : Option Acked → Outcome
taken_answer None = outcomes.OldAck
taken_answer (Some acked) = outcomes.Done acked.newly

-- an acknowledgement that is taken, where it is there, at the lane that it names
abbrev pub ack_answer : Option Ack → EndState → Outcome
ack_answer None s = outcomes.NotThere
ack_answer (Some ack) s = taken_answer (acked_by ack s)
