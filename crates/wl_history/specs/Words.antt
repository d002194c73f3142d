-- The words of a history: what an end has queued, booked, aired and received after some steps, told by
-- the steps alone. The steps are given with the latest first, so that behind each step stands the
-- history before it. `e` is an end, and `l` the place of a lane among the nine. Stands.antt says that an
-- end's state has the same.
use Rattle.std.specs.Prelude.{ℕ, zero, suc, ◌==◌, ◌&&◌, max, if◌then◌else◌, Bool, true, false, List, [], ◌∷◌, ◌++◌, Option, Some, None}
use Rattle.wl_elem.specs.declared.lane.EndId.{EndId}
use Rattle.wl_elem.specs.declared.lane.Lane.{Lane}
use Rattle.wl_elem.specs.declared.lane.Lane.TheVariants as lanes
use Rattle.wl_elem.specs.Lanes.{lane_index, at_place, same_end, peer_of}
use Rattle.wl_number.specs.declared.numbers.Numbers.{Numbers}
use Rattle.wl_number.specs.OrderRule.{with_booking}
use Rattle.wl_replay.specs.declared.replay.Pair.{Pair}
use Rattle.wl_replay.specs.Replay.{is_above}
use Rattle.wl_number.specs.Bookings.{no_bookings}
use Rattle.wl_window.specs.Reordering.{Window, Moved, Arrived, Stored, arrived, requested}
use Rattle.wl_history.specs.declared.command.Command.{Command}
use Rattle.wl_history.specs.declared.command.Command.TheVariants as commands
use Rattle.wl_history.specs.declared.outcome.Outcome.{Outcome}
use Rattle.wl_history.specs.declared.outcome.Outcome.TheVariants as outcomes
use Rattle.wl_history.specs.declared.arrival.Arrival.{Arrival}
use Rattle.wl_history.specs.declared.setup.Setup.{Setup}
use Rattle.wl_history.specs.declared.start.EndStart.{EndStart}
use Rattle.wl_history.specs.declared.start.Start.{Start}
use Rattle.wl_history.specs.declared.step.Step.{Step}
use Rattle.wl_message.specs.declared.message.Message.{Message}
use Rattle.wl_message.specs.Message.{message_octets, message_of}
use Rattle.wl_history.specs.Ends.{start_of, setup_begun, receive_size}
use Rattle.wl_history.specs.Machines.{Made, installed, switched, map_asked, map_torn, given, acted}

-- the body at a position, none beyond the queue
abbrev pub body_at : List (List ℕ) → ℕ → List ℕ
body_at [] pos = []
body_at (body ∷ bodies) zero = body
body_at (body ∷ bodies) (suc pos) = body_at bodies pos

-- Terms: what an end has set up and agreed, and the bodies of management that its machines made, in order. A
-- body of the peer that is released acts in that step.
pub record Terms : Type 0 where
  pub setup : Setup
  pub bodies : List (List ℕ)

abbrev pub bodies_with : Option Message → List (List ℕ) → List (List ℕ)
bodies_with None bodies = bodies
bodies_with (Some message) bodies = bodies ++ message_octets message ∷ []

abbrev pub terms_made : Made → List (List ℕ) → Terms
terms_made made bodies = record { setup = made.setup; bodies = bodies_with made.message bodies }

-- a body of a lane that is released
abbrev pub told_on : Lane → List ℕ → Terms → Terms
told_on (lanes.Tid tid) body old = old
told_on lanes.Management body old = terms_made (acted (message_of body) old.setup) old.bodies

-- A frame that was heard. Management has room for one body at a time, so what is stored there is released at once.
abbrev pub terms_heard : List (List ℕ) → Outcome → Terms → Terms
terms_heard peers (outcomes.Stored lane number n up) old = told_on lane (body_at peers n.pos) old
terms_heard peers other old = old

abbrev pub terms_after : EndId → List (List ℕ) → Command → Outcome → Terms → Terms
terms_after e peers (commands.Install end) outcome old = if same_end end e then terms_made (installed outcome old.setup) old.bodies else old
terms_after e peers (commands.Power end link on) outcome old = if same_end end e then terms_made (switched link on old.setup) old.bodies else old
terms_after e peers (commands.MapAsk end entries) outcome old = if same_end end e then terms_made (map_asked entries outcome old.setup) old.bodies else old
terms_after e peers (commands.MapTeardown end) outcome old = if same_end end e then terms_made (map_torn outcome old.setup) old.bodies else old
terms_after e peers (commands.GiveUp end what) outcome old = if same_end end e then terms_made (given what outcome old.setup) old.bodies else old
terms_after e peers (commands.Deliver end link nth) outcome old = if same_end end e then terms_heard peers outcome old else old
terms_after e peers (commands.Alter end link nth number) outcome old = if same_end end e then terms_heard peers outcome old else old
terms_after e peers (commands.Forge end link lane key pn number body) outcome old = if same_end end e then terms_heard peers outcome old else old
terms_after e peers (commands.Inject end link octets) outcome old = if same_end end e then terms_heard peers outcome old else old
terms_after e peers other outcome old = old

abbrev pub terms : Start → EndId → List Step → Terms
terms start e [] = record { setup = setup_begun (start_of start e); bodies = [] }
terms start e (step ∷ before) = terms_after e (terms start (peer_of e) before).bodies step.command step.outcome (terms start e before)

-- what an end has set up and agreed
abbrev pub setup_of : Start → EndId → List Step → Setup
setup_of start e steps = (terms start e steps).setup

-- Queued: the bodies that an end has queued on a lane, in order. A position is a place in this list. MSDUs are
-- queued by commands, bodies of management by machines.
abbrev pub msdus_after : EndId → ℕ → Command → List (List ℕ) → List (List ℕ)
msdus_after e l (commands.Queue end tid body) old = if same_end end e && at_place (lanes.Tid tid) l then old ++ body ∷ [] else old
msdus_after e l other old = old

abbrev pub msdus : EndId → ℕ → List Step → List (List ℕ)
msdus e l [] = []
msdus e l (step ∷ before) = msdus_after e l step.command (msdus e l before)

-- the bodies of the lane at a place, of bodies of management and MSDUs
abbrev pub queue_by : List (List ℕ) → (ℕ → List (List ℕ)) → ℕ → List (List ℕ)
queue_by bodies own l = if l == lane_index lanes.Management then bodies else own l

abbrev pub queued : Start → EndId → ℕ → List Step → List (List ℕ)
queued start e l steps = queue_by (terms start e steps).bodies (λ k. msdus e k steps) l

-- Booked: the bookings of each lane, by position.
abbrev pub booked_with : Outcome → List (List Numbers) → List (List Numbers)
booked_with (outcomes.Booked lane n) old = with_booking old lane n
booked_with other old = old

abbrev pub booked_after : EndId → Command → Outcome → List (List Numbers) → List (List Numbers)
booked_after e (commands.Book end) outcome old = if same_end end e then booked_with outcome old else old
booked_after e other outcome old = old

abbrev pub booked : EndId → List Step → List (List Numbers)
booked e [] = no_bookings
booked e (step ∷ before) = booked_after e step.command step.outcome (booked e before)

-- Send key: the greatest of the first key, the keys booked and those turned to.
abbrev pub key_booked : Outcome → ℕ → ℕ
key_booked (outcomes.Booked lane n) old = max old n.key
key_booked other old = old

abbrev pub key_turned : Outcome → ℕ → ℕ
key_turned (outcomes.Turned key) old = max old key
key_turned other old = old

abbrev pub key_after : EndId → Command → Outcome → ℕ → ℕ
key_after e (commands.Book end) outcome old = if same_end end e then key_booked outcome old else old
key_after e (commands.Turn end) outcome old = if same_end end e then key_turned outcome old else old
key_after e other outcome old = old

abbrev pub send_key : EndStart → EndId → List Step → ℕ
send_key start e [] = start.first_key
send_key start e (step ∷ before) = key_after e step.command step.outcome (send_key start e before)

-- Of a list: the last, the one at a place, and the one of this number, from 0, or the latest.
abbrev pub last_of : {A : Type 0} → List A → Option A
last_of [] = None
last_of (x ∷ []) = Some x
last_of (x ∷ y ∷ ys) = last_of (y ∷ ys)

abbrev pub at : {A : Type 0} → List A → ℕ → Option A
at [] n = None
at (x ∷ xs) zero = Some x
at (x ∷ xs) (suc n) = at xs n

abbrev pub nth_of : {A : Type 0} → Option ℕ → List A → Option A
nth_of None xs = last_of xs
nth_of (Some n) xs = at xs n

-- Airings: each frame that an end handed to a link, with the booking that it carries, in order.
pub record Airing : Type 0 where
  pub link : ℕ
  pub lane : Lane
  pub numbers : Numbers
  pub retry : Bool
  pub body : List ℕ

abbrev pub airing_made : Start → EndId → List Step → ℕ → Lane → Numbers → Bool → Airing
airing_made start e before link lane numbers retry = record { link = link; lane = lane; numbers = numbers; retry = retry; body = body_at (queued start e (lane_index lane) before) numbers.pos }

abbrev pub airings_put : Start → EndId → List Step → ℕ → Outcome → List Airing → List Airing
airings_put start e before link (outcomes.Put lane numbers retry) old = old ++ airing_made start e before link lane numbers retry ∷ []
airings_put start e before link other old = old

abbrev pub airings_again : Start → EndId → List Step → ℕ → Lane → Outcome → List Airing → List Airing
airings_again start e before link lane (outcomes.PutAgain numbers retry) old = old ++ airing_made start e before link lane numbers retry ∷ []
airings_again start e before link lane other old = old

abbrev pub airings_after : Start → EndId → List Step → Command → Outcome → List Airing → List Airing
airings_after start e before (commands.Put end link) outcome old = if same_end end e then airings_put start e before link outcome old else old
airings_after start e before (commands.Again end link lane pos) outcome old = if same_end end e then airings_again start e before link lane outcome old else old
airings_after start e before other outcome old = old

abbrev pub airings : Start → EndId → List Step → List Airing
airings start e [] = []
airings start e (step ∷ before) = airings_after start e before step.command step.outcome (airings start e before)

abbrev pub airings_on : ℕ → List Airing → List Airing
airings_on link [] = []
airings_on link (airing ∷ airings) = if airing.link == link then airing ∷ airings_on link airings else airings_on link airings

-- whether the booking at this position of the lane at this place was aired, on any link
abbrev pub was_aired : ℕ → ℕ → List Airing → Bool
was_aired l pos [] = false
was_aired l pos (airing ∷ airings) = if at_place airing.lane l && airing.numbers.pos == pos then true else was_aired l pos airings

-- Received: what is stored in the window of a lane, and what went up and was released, the latest
-- first.
pub record Receiving : Type 0 where
  pub window : Window Arrival
  pub released : List Arrival

-- key and packet number of the last one released
abbrev pub last_pair : List Arrival → Option Pair
last_pair [] = None
last_pair (item ∷ released) = Some (record { key = item.numbers.key; pn = item.numbers.pn })

-- whether key and packet number are above those of the last one released
abbrev pub is_new : Numbers → List Arrival → Bool
is_new n released = is_above (last_pair released) n.key n.pn

-- an item that goes up is released where it is above, and else dropped
abbrev pub release : Arrival → List Arrival → List Arrival
release item released = if is_new item.numbers released then item ∷ released else released

abbrev pub release_all : List Arrival → List Arrival → List Arrival
release_all [] released = released
release_all (item ∷ up) released = release_all up (release item released)

-- a window that moved, and what went up
abbrev pub passed : Moved Arrival → Receiving → Receiving
passed moved old = record { window = moved.window; released = release_all moved.up old.released }

abbrev pub taken : Arrived Arrival → Receiving → Receiving
taken (Stored moved) old = passed moved old
taken other old = old

abbrev pub passed_if : Option (Moved Arrival) → Receiving → Receiving
passed_if (Some moved) old = passed moved old
passed_if None old = old

abbrev pub received : Start → EndId → ℕ → List Step → Outcome → Receiving → Receiving
received start e l before (outcomes.Stored lane number n up) old =
    if at_place lane l
    then taken (arrived old.window number (receive_size (setup_of start e before) l) (record { numbers = n; body = body_at (queued start (peer_of e) l before) n.pos })) old
    else old
received start e l before other old = old

abbrev pub moved_to : ℕ → Outcome → Receiving → Receiving
moved_to l (outcomes.Moved lane start up) old = if at_place lane l then passed_if (requested old.window start) old else old
moved_to l other old = old

abbrev pub receiving_after : Start → EndId → ℕ → List Step → Command → Outcome → Receiving → Receiving
receiving_after start e l before (commands.Deliver end link nth) outcome old = if same_end end e then received start e l before outcome old else old
receiving_after start e l before (commands.Alter end link nth number) outcome old = if same_end end e then received start e l before outcome old else old
receiving_after start e l before (commands.Forge end link lane key pn number body) outcome old = if same_end end e then received start e l before outcome old else old
receiving_after start e l before (commands.Inject end link octets) outcome old = if same_end end e then received start e l before outcome old else old
receiving_after start e l before (commands.BarIn end nth) outcome old = if same_end end e then moved_to l outcome old else old
receiving_after start e l before other outcome old = old

abbrev pub receiving : Start → EndId → ℕ → List Step → Receiving
receiving start e l [] = record { window = record { start = 0; slots = [] }; released = [] }
receiving start e l (step ∷ before) = receiving_after start e l before step.command step.outcome (receiving start e l before)
