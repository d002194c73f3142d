-- The state of an end, and what each call makes of it. Nothing here speaks of a history.
use Rattle.std.specs.Prelude.{◌≡◌, ◌<◌, ◌≤◌, ℕ, zero, suc, ◌+◌, ◌-◌, if◌then◌else◌, Bool, true, false, List, [], ◌∷◌, ◌++◌, length, slice_index_or, slice_set, Option, Some, None, Result, Ok, Err}
use Rattle.wl_elem.specs.declared.lane.Lane.{Lane}
use Rattle.wl_elem.specs.Element.{msdu_limit}
use Rattle.wl_elem.specs.Lanes.{lane_index, lane_count}
use Rattle.wl_number.specs.declared.numbers.Numbers.{Numbers}
use Rattle.wl_number.specs.NumberObject.{NumberObject, opened, after_draw, turned}
use Rattle.wl_number.specs.Bookings.{no_bookings}
use Rattle.wl_number.specs.OrderRule.{with_booking}
use Rattle.wl_replay.specs.declared.replay.Pair.{Pair}
use Rattle.wl_replay.specs.Replay.{is_above, last_of, no_pairs}
use Rattle.wl_window.specs.Reordering.{Window, Moved, Arrived, Old, Doubled, Stored, arrived, requested}
use Rattle.wl_window.specs.Originating.{Sending, Acked, with_booked, acked, given_up}
use Rattle.wl_window.specs.declared.refusal.MoveRefusal.{MoveRefusal}
use Rattle.wl_history.specs.declared.ack.Ack.{Ack}
use Rattle.wl_history.specs.declared.ack.Bar.{Bar}
use Rattle.wl_history.specs.declared.arrival.Arrival.{Arrival}
use Rattle.wl_history.specs.declared.hand.Hand.{Hand}
use Rattle.wl_history.specs.declared.hand.Hand.TheVariants as hand
use Rattle.wl_history.specs.declared.outcome.Outcome.{Outcome}
use Rattle.wl_history.specs.declared.outcome.Outcome.TheVariants as outcomes
use Rattle.wl_history.specs.declared.setup.Setup.{Setup}
use Rattle.wl_history.specs.declared.start.EndStart.{EndStart}
use Rattle.wl_elem.specs.declared.lane.Lane.TheVariants as lane_kinds
use Rattle.wl_message.specs.declared.message.Message.{Message}
use Rattle.wl_message.specs.Message.{message_octets, message_of, IsMade as IsBody}
use Rattle.wl_history.specs.Ends.{setup_begun, receive_size, IsSetup}
use Rattle.wl_history.specs.Machines.{Made, installed, acted}
use Rattle.wl_history.specs.Hands.{hand_of, set_hand}
use Rattle.wl_history.specs.Sender.{IsSender, IsGapless}
use Rattle.wl_history.specs.Words.{body_at}

-- ---- what an end keeps

pub record LaneState : Type 0 where
  -- the bodies queued, in order
  pub queue : List (List ℕ)
  -- which positions are granted, booked and done
  pub sending : Sending
  -- what is received and waits
  pub window : Window Arrival
  -- the positions released, in order
  pub released : List ℕ
  -- by position, whether the booking was aired
  pub aired : List Bool
  -- the greatest size that its window may have
  pub room : ℕ

pub record EndState : Type 0 where
  pub start : EndStart
  -- by the lane's place among the nine
  pub lanes : List LaneState
  -- by thread
  pub hands : List Hand
  pub numbers : NumberObject
  pub booked : List (List Numbers)
  -- the last pair released of each lane
  pub last : List (Option Pair)
  pub setup : Setup
  -- the frames aired on each link, by its ID, in order
  pub frames : List (List (List ℕ))

abbrev pub no_window : Window Arrival
no_window = record { start = 0; slots = [] }

abbrev pub nothing_sent : Sending
nothing_sent = record { granted = 0; base = 0; marks = [] }

abbrev pub no_lane : LaneState
no_lane = record { queue = []; sending = nothing_sent; window = no_window; released = []; aired = []; room = 256 }

-- management bodies go one at a time
abbrev pub no_management : LaneState
no_management = record no_lane { room = 1 }

abbrev pub lane_at : EndState → ℕ → LaneState
lane_at s l = slice_index_or s.lanes l no_lane

abbrev pub frames_on : EndState → ℕ → List (List ℕ)
frames_on s link = slice_index_or s.frames link []

-- the lanes of an end that did nothing yet, and its frames
abbrev pub no_lanes : List LaneState
no_lanes = no_lane ∷ no_lane ∷ no_lane ∷ no_lane ∷ no_lane ∷ no_lane ∷ no_lane ∷ no_lane ∷ no_management ∷ []

abbrev pub no_frames : List (List (List ℕ))
no_frames = [] ∷ [] ∷ [] ∷ [] ∷ [] ∷ [] ∷ [] ∷ [] ∷ [] ∷ [] ∷ [] ∷ [] ∷ [] ∷ [] ∷ [] ∷ []

-- the place of management among the lanes
abbrev pub management : ℕ
management = lane_index lane_kinds.Management

-- nothing was queued, sent or received
abbrev pub started : EndStart → EndState
started start = record {
  start = start;
  lanes = no_lanes;
  hands = [];
  numbers = opened start.first_key start.first_pn;
  booked = no_bookings;
  last = no_pairs;
  setup = setup_begun start;
  frames = no_frames;
}

-- what holds of management: each body queued is one that an end makes, and none that came waits
pub record IsManagement (lane : LaneState) : Type 0 where
  pub made : (pos : ℕ) → pos < length lane.queue → IsBody (body_at lane.queue pos)
  pub idle : lane.window.slots ≡ []

-- what holds of each end
pub record IsEnd (s : EndState) : Type 0 where
  pub nine : length s.lanes ≡ lane_count
  pub nine_pairs : length s.last ≡ lane_count
  pub fifteen : length s.frames ≡ 15
  pub short : (l pos : ℕ) → length (body_at (lane_at s l).queue pos) ≤ msdu_limit
  pub sender : IsSender (λ l. (lane_at s l).queue) s.hands s.numbers s.booked (λ l. (lane_at s l).sending)
  pub gapless : IsGapless s.numbers s.booked
  pub sized : IsSetup s.setup
  pub roomy : (l : ℕ) → receive_size s.setup l ≤ (lane_at s l).room
  pub managed : IsManagement (lane_at s management)
  -- tokens are of one octet
  pub token_fits : s.setup.token < 256

-- ---- parts of the calls

abbrev pub with_lane : ℕ → LaneState → EndState → EndState
with_lane l lane s = record s { lanes = slice_set s.lanes l lane }

abbrev pub with_hand : ℕ → Hand → EndState → EndState
with_hand thread hand s = record s { hands = set_hand thread hand s.hands }

abbrev pub with_sending : ℕ → Sending → EndState → EndState
with_sending l sending s = with_lane l (record (lane_at s l) { sending = sending }) s

abbrev pub was_aired_at : List Bool → ℕ → Bool
was_aired_at [] pos = false
was_aired_at (aired ∷ flags) zero = aired
was_aired_at (aired ∷ flags) (suc pos) = was_aired_at flags pos

-- the booking at this position is aired
abbrev pub aired_at : ℕ → List Bool → List Bool
aired_at zero [] = true ∷ []
aired_at zero (aired ∷ flags) = true ∷ flags
aired_at (suc pos) [] = false ∷ aired_at pos []
aired_at (suc pos) (aired ∷ flags) = aired ∷ aired_at pos flags

-- ---- what each call leaves, by its answer

abbrev pub after_queue : ℕ → List ℕ → EndState → EndState
after_queue l body s = with_lane l (record (lane_at s l) { queue = (lane_at s l).queue ++ body ∷ [] }) s

abbrev pub after_reserve : ℕ → Lane → Outcome → EndState → EndState
after_reserve thread lane outcomes.Reserved s =
    with_hand thread (hand.Reserve lane) (with_sending (lane_index lane) (record (lane_at s (lane_index lane)).sending { granted = (lane_at s (lane_index lane)).sending.granted + 1 }) s)
after_reserve thread lane other s = s

abbrev pub after_book : ℕ → Outcome → EndState → EndState
after_book thread (outcomes.Booked lane n) s =
    record (with_hand thread (hand.Booking lane n) (with_sending (lane_index lane) (with_booked (lane_at s (lane_index lane)).sending n.pos) s)) {
      numbers = after_draw s.numbers lane;
      booked = with_booking s.booked lane n;
    }
after_book thread (outcomes.Spent lane) s =
    with_hand thread hand.Empty (with_sending (lane_index lane) (record (lane_at s (lane_index lane)).sending { granted = (lane_at s (lane_index lane)).sending.granted - 1 }) s)
after_book thread other s = s

-- a booking leaves the hand, whatever is answered
abbrev pub put_down : ℕ → Hand → EndState → EndState
put_down thread (hand.Booking lane n) s = with_hand thread hand.Empty s
put_down thread other s = s

-- these octets were aired on the link for the booking
abbrev pub with_frame : ℕ → List ℕ → Lane → Numbers → EndState → EndState
with_frame link octets lane n s =
    record (with_lane (lane_index lane) (record (lane_at s (lane_index lane)) { aired = aired_at n.pos (lane_at s (lane_index lane)).aired }) s) {
      frames = slice_set s.frames link (frames_on s link ++ octets ∷ []);
    }

abbrev pub after_put : ℕ → ℕ → List ℕ → Outcome → EndState → EndState
after_put thread link octets (outcomes.Put lane n retry) s = put_down thread (hand_of s.hands thread) (with_frame link octets lane n s)
after_put thread link octets other s = put_down thread (hand_of s.hands thread) s

-- the same for a booking that was named, which no hand holds
abbrev pub after_again : ℕ → Lane → List ℕ → Outcome → EndState → EndState
after_again link lane octets (outcomes.PutAgain n retry) s = with_frame link octets lane n s
after_again link lane octets other s = s

-- a message goes into the queue of management
abbrev pub with_message : Option Message → EndState → EndState
with_message None s = s
with_message (Some message) s = after_queue management (message_octets message) s

-- what machines made
abbrev pub with_made : Made → EndState → EndState
with_made made s = with_message made.message (record s { setup = made.setup })

-- a body of a lane that is released
abbrev pub after_told : Lane → List ℕ → EndState → EndState
after_told (lane_kinds.Tid tid) body s = s
after_told lane_kinds.Management body s = with_made (acted (message_of body) s.setup) s

-- what goes up is released where its pair is above the last, which it then is
pub record LetUp : Type 0 where
  pub positions : List ℕ
  pub last : Option Pair

abbrev pub pair_of : Arrival → Pair
pair_of a = record { key = a.numbers.key; pn = a.numbers.pn }

abbrev pub before_it : ℕ → LetUp → LetUp
before_it pos more = record { positions = pos ∷ more.positions; last = more.last }

abbrev pub let_up : Option Pair → List Arrival → LetUp
let_up last [] = record { positions = []; last = last }
let_up last (a ∷ up) = if is_above last a.numbers.key a.numbers.pn then before_it a.numbers.pos (let_up (Some (pair_of a)) up) else let_up last up

abbrev pub hear_arrived : Lane → ℕ → Numbers → Option Pair → Arrived Arrival → Outcome
hear_arrived lane number n last Old = outcomes.OldNumber
hear_arrived lane number n last Doubled = outcomes.Double
hear_arrived lane number n last (Stored moved) = outcomes.Stored lane number n (let_up last moved.up).positions

-- a body that opened, with this sequence number, where the window has this size
abbrev pub hear_answer : Lane → ℕ → ℕ → Arrival → EndState → Outcome
hear_answer lane number size a s =
    if is_above (last_of s.last lane) a.numbers.key a.numbers.pn
    then hear_arrived lane number a.numbers (last_of s.last lane) (arrived (lane_at s (lane_index lane)).window number size a)
    else outcomes.Replay

abbrev pub with_moved : Lane → Moved Arrival → EndState → EndState
with_moved lane moved s =
    record (with_lane (lane_index lane) (record (lane_at s (lane_index lane)) { window = moved.window; released = (lane_at s (lane_index lane)).released ++ (let_up (last_of s.last lane) moved.up).positions }) s) {
      last = slice_set s.last (lane_index lane) (let_up (last_of s.last lane) moved.up).last;
    }

-- Management has room for one body at a time, so what is stored there is released at once.
abbrev pub after_arrived : Lane → List ℕ → Arrived Arrival → EndState → EndState
after_arrived lane body (Stored moved) s = after_told lane body (with_moved lane moved s)
after_arrived lane body other s = s

abbrev pub after_hear : Lane → ℕ → ℕ → Arrival → EndState → EndState
after_hear lane number size a s =
    if is_above (last_of s.last lane) a.numbers.key a.numbers.pn
    then after_arrived lane a.body (arrived (lane_at s (lane_index lane)).window number size a) s
    else s

-- the next key is held
abbrev pub after_install : Outcome → EndState → EndState
after_install outcome s = with_made (installed outcome s.setup) s

-- the next key is sent under
abbrev pub after_turn : Outcome → EndState → EndState
after_turn (outcomes.Turned key) s = record s { numbers = turned s.numbers }
after_turn other s = s

abbrev pub acked_by : Ack → EndState → Option Acked
acked_by ack s = acked (lane_at s (lane_index ack.lane)).sending ack.start ack.stored

abbrev pub after_acked : Ack → Option Acked → EndState → EndState
after_acked ack None s = s
after_acked ack (Some acked) s = with_sending (lane_index ack.lane) acked.sending s

abbrev pub after_ack : Ack → EndState → EndState
after_ack ack s = after_acked ack (acked_by ack s) s

-- an acknowledgement that is taken, where it is there
abbrev pub after_taken : Option Ack → EndState → EndState
after_taken None s = s
after_taken (Some ack) s = after_ack ack s

-- the positions of a lane below this one are given up, where they can be
abbrev pub given_by : Lane → ℕ → EndState → Result Sending MoveRefusal
given_by lane to s = given_up (lane_at s (lane_index lane)).sending to

abbrev pub after_given : Lane → Result Sending MoveRefusal → EndState → EndState
after_given lane (Ok sending) s = with_sending (lane_index lane) sending s
after_given lane (Err why) s = s

abbrev pub after_bar_out : Lane → ℕ → EndState → EndState
after_bar_out lane to s = after_given lane (given_by lane to s) s

-- a request to move a window that is taken, where it is there
abbrev pub moved_by : Bar → EndState → Option (Moved Arrival)
moved_by bar s = requested (lane_at s (lane_index bar.lane)).window bar.start

abbrev pub after_moved : Lane → Option (Moved Arrival) → EndState → EndState
after_moved lane None s = s
after_moved lane (Some moved) s = with_moved lane moved s

abbrev pub after_request : Option Bar → EndState → EndState
after_request None s = s
after_request (Some bar) s = after_moved bar.lane (moved_by bar s) s

-- what a receiver stores of a booking of this sender
abbrev pub arrival_of : EndState → Lane → Numbers → Arrival
arrival_of sender lane n = record { numbers = n; body = body_at (lane_at sender (lane_index lane)).queue n.pos }

-- a frame of this sender that was heard
abbrev pub after_heard : EndState → Outcome → EndState → EndState
after_heard sender (outcomes.Stored lane number n up) s = after_hear lane number (receive_size s.setup (lane_index lane)) (arrival_of sender lane n) s
after_heard sender other s = s
