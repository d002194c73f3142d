-- How far one step of two ends can go, and that what holds of each world holds after it.
use Rattle.std.proofs.Common.{◌≡◌, ℕ, zero, suc, ◌+◌, ◌<◌, ◌≤◌, Bool, true, false, List, [], ◌∷◌, ◌++◌, length, get_or, set, Option, Some, None, Result, Ok, Err, refl, sym, ap, subst, ◌∙◌, arith, length-append}
use Rattle.std.specs.Prelude.{nat_lt, ◌==◌, if◌then◌else◌}
use Rattle.std.specs.List.{AllByRecursion}
use Rattle.wl_elem.specs.declared.lane.EndId.{EndId}
use Rattle.wl_elem.specs.declared.lane.EndId.TheVariants.{Ap, Sta}
use Rattle.wl_elem.specs.declared.lane.Lane.{Lane}
use Rattle.wl_elem.specs.declared.lane.Lane.TheVariants.{Management}
use Rattle.wl_elem.specs.Lanes.{lane_index, peer_of}
use Rattle.wl_frame.specs.Sealing.{Sealing}
use Rattle.wl_number.specs.declared.numbers.Numbers.{Numbers}
use Rattle.wl_number.specs.Bookings.{booking_count}
use Rattle.wl_number.specs.OrderRule.{list_of, entered_in}
use Rattle.wl_replay.specs.Replay.{is_above, last_of}
use Rattle.wl_window.specs.Originating.{Sending, Acked}
use Rattle.wl_window.specs.declared.refusal.MoveRefusal.{MoveRefusal}
use Rattle.wl_window.specs.Reordering.{IsNear, Window, Moved, Arrived, Old, Doubled, Stored, arrived}
use Rattle.wl_history.specs.declared.ack.Ack.{Ack}
use Rattle.wl_history.specs.declared.ack.Bar.{Bar}
use Rattle.wl_history.specs.declared.arrival.Arrival.{Arrival}
use Rattle.wl_history.specs.declared.command.Command.{Command}
use Rattle.wl_history.specs.declared.command.Command.TheVariants as commands
use Rattle.wl_history.specs.declared.hand.Hand.{Hand}
use Rattle.wl_history.specs.declared.hand.Hand.TheVariants as hand
use Rattle.wl_history.specs.declared.outcome.Outcome.{Outcome}
use Rattle.wl_history.specs.declared.outcome.Outcome.TheVariants as outcomes
use Rattle.wl_history.specs.declared.start.EndStart.{EndStart}
use Rattle.wl_history.specs.declared.start.Start.{Start}
use Rattle.wl_history.specs.Ends.{IsSetup, IsStart, start_of, receive_size}
use Rattle.wl_elem.specs.declared.lane.Lane.TheVariants as lanes
use Rattle.wl_window.specs.Reordering.{MovesNear}
use Rattle.wl_message.specs.declared.changes.MapEntry.{MapEntry}
use Rattle.wl_message.specs.declared.message.Message.{Message}
use Rattle.wl_message.specs.declared.message.Message.TheVariants as messages
use Rattle.wl_message.specs.Message.{message_octets, message_of}
use Rattle.wl_history.specs.declared.command.Machine.{Machine}
use Rattle.wl_history.specs.declared.command.Machine.TheVariants as machines
use Rattle.wl_history.specs.declared.setup.Setup.{Setup}
use Rattle.wl_history.specs.Machines.{Made, acted, installed, switched, map_asked, map_torn, given}
use Rattle.wl_history.specs.Hands.{hand_of}
use Rattle.wl_history.specs.Answers.{aired_octets, acks_made}
use Rattle.wl_history.specs.EndState.{LaneState, EndState, lane_at, no_lane, no_lanes, no_management, started, frames_on, with_lane, with_frame, put_down, arrival_of, after_queue, after_reserve, after_book, after_put, after_arrived, after_heard, after_again, after_acked, after_taken, after_given, after_bar_out, after_moved, after_request, after_turn, acked_by, given_by, moved_by, management, with_message, with_made, with_moved, after_told}
use Rattle.wl_history.specs.AirState.{AirState, end_of, acks_of, with_end, with_acks, with_bars, ack_named, bar_named, begun, after}
use Rattle.wl_end.specs.Parts.{frame_count}
use Rattle.wl_history.specs.Legal.{step_limit}
use Rattle.wl_air.specs.World.{IsBounded, IsRoomy, IsWorld}
use Rattle.wl_air.proofs.Windows.{StoredNear, RequestedNear, NearLaws, ArrivedNear, AskedNear, arrived_near, asked_near}

-- ---- one end

-- a lane after a step
pub record LaneGrown (old new : LaneState) : Type 0 where
  pub queue : length new.queue ≤ length old.queue + 1
  pub window : new.window.start ≤ old.window.start + 2048
  pub near : IsNear old.window → IsNear new.window

-- an end after a step
pub record Grown (s t : EndState) : Type 0 where
  pub start_same : t.start ≡ s.start
  pub sized : IsSetup s.setup → IsSetup t.setup
  pub lanes : (l : ℕ) → LaneGrown (lane_at s l) (lane_at t l)
  pub booked : booking_count t.booked ≤ booking_count s.booked + 1
  pub aired : frame_count t.frames ≤ frame_count s.frames + 1

lane_still : (x : LaneState) → LaneGrown x x
lane_still x = record { queue = omega arith; window = omega arith; near = λ h. h }

still_grown : (s : EndState) → Grown s s
still_grown s = record { start_same = refl; sized = λ h. h; lanes = λ l. lane_still (lane_at s l); booked = omega arith; aired = omega arith }

-- one lane changed
one_lane : (lanes : List LaneState) (place l : ℕ) (new : LaneState) → LaneGrown (get_or lanes place no_lane) new → LaneGrown (get_or lanes l no_lane) (get_or (set lanes place new) l no_lane)
one_lane [] place l new grown = lane_still no_lane
one_lane (x ∷ xs) zero zero new grown = grown
one_lane (x ∷ xs) zero (suc l) new grown = lane_still (get_or xs l no_lane)
one_lane (x ∷ xs) (suc place) zero new grown = lane_still x
one_lane (x ∷ xs) (suc place) (suc l) new grown = one_lane xs place l new grown

-- one list of some more or one longer by one
booking_more : (lanes : List (List Numbers)) (place : ℕ) (new : List Numbers) → length new ≤ length (get_or lanes place []) + 1 → booking_count (set lanes place new) ≤ booking_count lanes + 1
booking_more [] place new le = omega arith
booking_more (list ∷ lanes) zero new le = omega (arith, le)
booking_more (list ∷ lanes) (suc place) new le = omega (arith, booking_more lanes place new le)

frame_more : (frames : List (List (List ℕ))) (place : ℕ) (new : List (List ℕ)) → length new ≤ length (get_or frames place []) + 1 → frame_count (set frames place new) ≤ frame_count frames + 1
frame_more [] place new le = omega arith
frame_more (on_link ∷ frames) zero new le = omega (arith, le)
frame_more (on_link ∷ frames) (suc place) new le = omega (arith, frame_more frames place new le)

entered_by : (b : Bool) (n x : Numbers) (xs more : List Numbers) → length more ≤ length xs + 1 → length (if b then x ∷ more else n ∷ x ∷ xs) ≤ length xs + 2
entered_by true n x xs more le = omega (arith, le)
entered_by false n x xs more le = omega arith

entered_more : (n : Numbers) (xs : List Numbers) → length (entered_in n xs) ≤ length xs + 1
entered_more n [] = omega arith
entered_more n (x ∷ xs) =
    let more : length (entered_in n (x ∷ xs)) ≤ length xs + 2 = entered_by (nat_lt x.pos n.pos) n x xs (entered_in n xs) (entered_more n xs) in
    omega (arith, more)

size_by : (b : Bool) (window : ℕ) → 1 ≤ window → 1 ≤ (if b then 1 else window)
size_by true window h = omega arith
size_by false window h = h

module _ (s : EndState) where
  -- a lane whose queue and window stay
  same_lane : (place : ℕ) (new : LaneState) → new.queue ≡ (lane_at s place).queue → new.window ≡ (lane_at s place).window → (l : ℕ) → LaneGrown (lane_at s l) (lane_at (with_lane place new s) l)
  same_lane place new q v l = one_lane s.lanes place l new (record {
    queue = omega (arith, ap (λ (b : List (List ℕ)). length b) q);
    window = omega (arith, ap (λ (b : Window Arrival). b.start) v);
    near = λ h. subst IsNear (sym v) h;
  })

  queue_grown : (l : ℕ) (body : List ℕ) → Grown s (after_queue l body s)
  queue_grown l body = record {
    start_same = refl;
    sized = λ h. h;
    lanes = λ k. one_lane s.lanes l k (record (lane_at s l) { queue = (lane_at s l).queue ++ body ∷ [] }) (record { queue = omega (arith, length-append (lane_at s l).queue (body ∷ [])); window = omega arith; near = λ h. h });
    booked = omega arith;
    aired = omega arith;
  }

  reserve_grown : (thread : ℕ) (lane : Lane) (o : Outcome) → Grown s (after_reserve thread lane o s)
  reserve_grown thread lane outcomes.Reserved = record { start_same = refl; sized = λ h. h; lanes = same_lane (lane_index lane) _ refl refl; booked = omega arith; aired = omega arith }
  reserve_grown thread lane other = still_grown s

  book_grown : (thread : ℕ) (o : Outcome) → Grown s (after_book thread o s)
  book_grown thread (outcomes.Booked lane n) =
      record { start_same = refl; sized = λ h. h; lanes = same_lane (lane_index lane) _ refl refl; booked = booking_more s.booked (lane_index lane) (entered_in n (list_of s.booked lane)) (entered_more n (list_of s.booked lane)); aired = omega arith }
  book_grown thread (outcomes.Spent lane) = record { start_same = refl; sized = λ h. h; lanes = same_lane (lane_index lane) _ refl refl; booked = omega arith; aired = omega arith }
  book_grown thread other = still_grown s

  down_grown : (thread : ℕ) (held : Hand) (t : EndState) → Grown s t → Grown s (put_down thread held t)
  down_grown thread hand.Empty t g = g
  down_grown thread (hand.Reserve lane) t g = g
  down_grown thread (hand.Booking lane n) t g = record { start_same = g.start_same; sized = g.sized; lanes = g.lanes; booked = g.booked; aired = g.aired }

  frame_grown : (link : ℕ) (octets : List ℕ) (lane : Lane) (n : Numbers) → Grown s (with_frame link octets lane n s)
  frame_grown link octets lane n = record {
    start_same = refl;
    sized = λ h. h;
    lanes = same_lane (lane_index lane) _ refl refl;
    booked = omega arith;
    aired = frame_more s.frames link (frames_on s link ++ octets ∷ []) (omega (arith, length-append (frames_on s link) (octets ∷ [])));
  }

  put_grown : (thread link : ℕ) (octets : List ℕ) (o : Outcome) → Grown s (after_put thread link octets o s)
  put_grown thread link octets (outcomes.Put lane n retry) = down_grown thread (hand_of s.hands thread) (with_frame link octets lane n s) (frame_grown link octets lane n)
  put_grown thread link octets other = down_grown thread (hand_of s.hands thread) s (still_grown s)

  -- a window that moved, and the queue that stays
  window_grown : (lane : Lane) (moved : Moved Arrival) → MovesNear (lane_at s (lane_index lane)).window moved → Grown s (with_moved lane moved s)
  window_grown lane moved near = record {
    start_same = refl;
    sized = λ h. h;
    lanes = λ l. one_lane s.lanes (lane_index lane) l _ (record { queue = omega arith; window = near.2; near = λ h. near.0 });
    booked = omega arith;
    aired = omega arith;
  }

  -- what a machine makes: one body more at most
  message_grown : (setup : Setup) (message : Option Message) → (IsSetup s.setup → IsSetup setup) → Grown s (with_message message (record s { setup = setup }))
  message_grown setup None sized = record { start_same = refl; sized = sized; lanes = λ l. lane_still (lane_at s l); booked = omega arith; aired = omega arith }
  message_grown setup (Some message) sized = record {
    start_same = refl;
    sized = sized;
    lanes = (queue_grown management (message_octets message)).lanes;
    booked = omega arith;
    aired = omega arith;
  }

  made_grown : (made : Made) → (IsSetup s.setup → IsSetup made.setup) → Grown s (with_made made s)
  made_grown made sized = message_grown made.setup made.message sized

  hear_by : (b : Bool) (t : EndState) → Grown s t → Grown s (if b then t else s)
  hear_by true t g = g
  hear_by false t g = still_grown s

  moved_grown : (lane : Lane) (moved : Option (Moved Arrival)) → AskedNear (lane_at s (lane_index lane)).window moved → Grown s (after_moved lane moved s)
  moved_grown lane None near = still_grown s
  moved_grown lane (Some moved) near = window_grown lane moved near

  request_grown : RequestedNear → (named : Option Bar) → ((l : ℕ) → IsNear (lane_at s l).window) → Grown s (after_request named s)
  request_grown law None near = still_grown s
  request_grown law (Some bar) near = moved_grown bar.lane (moved_by bar s) (asked_near law (lane_at s (lane_index bar.lane)).window bar.start (near (lane_index bar.lane)))

  given_grown : (lane : Lane) (given : Result Sending MoveRefusal) → Grown s (after_given lane given s)
  given_grown lane (Ok sending) = record { start_same = refl; sized = λ h. h; lanes = same_lane (lane_index lane) _ refl refl; booked = omega arith; aired = omega arith }
  given_grown lane (Err why) = still_grown s

  again_grown : (link : ℕ) (lane : Lane) (octets : List ℕ) (o : Outcome) → Grown s (after_again link lane octets o s)
  again_grown link lane octets (outcomes.PutAgain n retry) = frame_grown link octets lane n
  again_grown link lane octets other = still_grown s

  acked_grown : (ack : Ack) (a : Option Acked) → Grown s (after_acked ack a s)
  acked_grown ack None = still_grown s
  acked_grown ack (Some acked) = record { start_same = refl; sized = λ h. h; lanes = same_lane (lane_index ack.lane) _ refl refl; booked = omega arith; aired = omega arith }

  taken_grown : (named : Option Ack) → Grown s (after_taken named s)
  taken_grown None = still_grown s
  taken_grown (Some ack) = acked_grown ack (acked_by ack s)

  -- a key that is turned to
  turn_grown : (o : Outcome) → Grown s (after_turn o s)
  turn_grown (outcomes.Turned key) = record { start_same = refl; sized = λ h. h; lanes = λ l. lane_still (lane_at s l); booked = omega arith; aired = omega arith }
  turn_grown other = still_grown s

-- ---- what is released acts

-- one change after another, of which the first leaves the queues and the second the windows
both_grown : (s t u : EndState) → Grown s t → Grown t u → ((l : ℕ) → length (lane_at t l).queue ≡ length (lane_at s l).queue) → ((l : ℕ) → (lane_at u l).window ≡ (lane_at t l).window) → t.booked ≡ s.booked → u.booked ≡ t.booked → t.frames ≡ s.frames → u.frames ≡ t.frames → Grown s u
both_grown s t u g h queues windows booked booked' frames frames' = record {
  start_same = h.start_same ∙ g.start_same;
  sized = λ is. h.sized (g.sized is);
  lanes = λ l. record {
    queue = omega (arith, (h.lanes l).queue, queues l);
    window = omega (arith, (g.lanes l).window, ap (λ (w : Window Arrival). w.start) (windows l));
    near = λ is. subst IsNear (sym (windows l)) ((g.lanes l).near is);
  };
  booked = omega (arith, ap booking_count booked, ap booking_count booked');
  aired = omega (arith, ap frame_count frames, ap frame_count frames');
}

same_queue : (lanes : List LaneState) (place l : ℕ) (new : LaneState) → new.queue ≡ (get_or lanes place no_lane).queue → length (get_or (set lanes place new) l no_lane).queue ≡ length (get_or lanes l no_lane).queue
same_queue [] place l new same = refl
same_queue (x ∷ xs) zero zero new same = ap (λ (q : List (List ℕ)). length q) same
same_queue (x ∷ xs) zero (suc l) new same = refl
same_queue (x ∷ xs) (suc place) zero new same = refl
same_queue (x ∷ xs) (suc place) (suc l) new same = same_queue xs place l new same

same_window : (lanes : List LaneState) (place l : ℕ) (new : LaneState) → new.window ≡ (get_or lanes place no_lane).window → (get_or (set lanes place new) l no_lane).window ≡ (get_or lanes l no_lane).window
same_window [] place l new same = refl
same_window (x ∷ xs) zero zero new same = same
same_window (x ∷ xs) zero (suc l) new same = refl
same_window (x ∷ xs) (suc place) zero new same = refl
same_window (x ∷ xs) (suc place) (suc l) new same = same_window xs place l new same

message_windows : (s : EndState) (setup : Setup) (message : Option Message) (l : ℕ) → (lane_at (with_message message (record s { setup = setup })) l).window ≡ (lane_at s l).window
message_windows s setup None l = refl
message_windows s setup (Some message) l = same_window s.lanes management l _ refl

message_books : (s : EndState) (setup : Setup) (message : Option Message) → (with_message message (record s { setup = setup })).booked ≡ s.booked
message_books s setup None = refl
message_books s setup (Some message) = refl

message_frames : (s : EndState) (setup : Setup) (message : Option Message) → (with_message message (record s { setup = setup })).frames ≡ s.frames
message_frames s setup None = refl
message_frames s setup (Some message) = refl

-- ---- the sizes of windows stay, whatever a machine makes

sized_same : (old new : Setup) → new.window ≡ old.window → IsSetup old → IsSetup new
sized_same old new same is = record { some_window = omega (arith, same, is.some_window); window_limit = omega (arith, same, is.window_limit) }

installed_window : (o : Outcome) (setup : Setup) → (installed o setup).setup.window ≡ setup.window
installed_window (outcomes.Installed key) setup = refl
installed_window other setup = refl

asked_window : (entries : List MapEntry) (o : Outcome) (setup : Setup) → (map_asked entries o setup).setup.window ≡ setup.window
asked_window entries (outcomes.Asked token) setup = refl
asked_window entries other setup = refl

torn_window : (o : Outcome) (setup : Setup) → (map_torn o setup).setup.window ≡ setup.window
torn_window outcomes.Sent setup = refl
torn_window other setup = refl

given_window : (what : Machine) (o : Outcome) (setup : Setup) → (given what o setup).setup.window ≡ setup.window
given_window machines.Map (outcomes.Given token) setup = refl
given_window machines.Map other setup = refl

acted_window : (message : Message) (setup : Setup) → (acted message setup).setup.window ≡ setup.window
acted_window (messages.MapAsk token changes) setup = refl
acted_window (messages.MapReply token status) setup = refl
acted_window messages.MapTeardown setup = refl

made_same : (s : EndState) (made : Made) → made.setup.window ≡ s.setup.window → Grown s (with_made made s)
made_same s made same = made_grown s made (sized_same s.setup made.setup same)

module _ (s : EndState) where
  told_grown : (at : Lane) (body : List ℕ) (lane : Lane) (moved : Moved Arrival) → MovesNear (lane_at s (lane_index lane)).window moved → Grown s (after_told at body (with_moved lane moved s))
  told_grown (lanes.Tid tid) body lane moved near = window_grown s lane moved near
  told_grown lanes.Management body lane moved near =
      let t = with_moved lane moved s in
      let made = acted (message_of body) t.setup in
      both_grown s t (with_made made t) (window_grown s lane moved near) (made_same t made (acted_window (message_of body) t.setup))
      (λ l. same_queue s.lanes (lane_index lane) l _ refl) (message_windows t made.setup made.message) refl (message_books t made.setup made.message) refl (message_frames t made.setup made.message)

  arrived_grown : (lane : Lane) (body : List ℕ) (come : Arrived Arrival) → ArrivedNear (lane_at s (lane_index lane)).window come → Grown s (after_arrived lane body come s)
  arrived_grown lane body Old near = still_grown s
  arrived_grown lane body Doubled near = still_grown s
  arrived_grown lane body (Stored moved) near = told_grown lane body lane moved near

  heard_grown : StoredNear → (p : EndState) (o : Outcome) → IsSetup s.setup → ((l : ℕ) → IsNear (lane_at s l).window) → Grown s (after_heard p o s)
  heard_grown law p (outcomes.Stored lane number n up) some near =
      let size = receive_size s.setup (lane_index lane) in
      let item = arrival_of p lane n in
      hear_by s (is_above (last_of s.last lane) n.key n.pn) _
      (arrived_grown lane item.body (arrived (lane_at s (lane_index lane)).window number size item)
      (arrived_near law (lane_at s (lane_index lane)).window number size item (size_by (lane_index lane == lane_index Management) s.setup.window some.some_window) (near (lane_index lane))))
  heard_grown law p other some near = still_grown s

-- ---- both

module _ (a : AirState) where
  at_end : (end : EndId) (s : EndState) → Grown (end_of a end) s → (e : EndId) → Grown (end_of a e) (end_of (with_end end s a) e)
  at_end Ap s g Ap = g
  at_end Ap s g Sta = still_grown a.sta
  at_end Sta s g Ap = still_grown a.ap
  at_end Sta s g Sta = g

  at_acks : (end : EndId) (acks : List Ack) (e : EndId) → Grown (end_of a e) (end_of (with_acks end acks a) e)
  at_acks Ap acks Ap = still_grown a.ap
  at_acks Ap acks Sta = still_grown a.sta
  at_acks Sta acks Ap = still_grown a.ap
  at_acks Sta acks Sta = still_grown a.sta

  at_bars : (end : EndId) (bars : List Bar) (b : AirState) (e : EndId) → Grown (end_of a e) (end_of b e) → Grown (end_of a e) (end_of (with_bars end bars b) e)
  at_bars Ap bars b Ap g = g
  at_bars Ap bars b Sta g = g
  at_bars Sta bars b Ap g = g
  at_bars Sta bars b Sta g = g

  after_grown : NearLaws → (text : Sealing) (thread : ℕ) (command : Command) (o : Outcome) → ((e : EndId) → IsSetup (end_of a e).setup) → ((e : EndId) (l : ℕ) → IsNear (lane_at (end_of a e) l).window)
      → (e : EndId) → Grown (end_of a e) (end_of (after text thread command o a) e)
  after_grown law text thread (commands.Queue end tid body) o some near = at_end end _ (queue_grown (end_of a end) tid body)
  after_grown law text thread (commands.Reserve end lane) o some near = at_end end _ (reserve_grown (end_of a end) thread lane o)
  after_grown law text thread (commands.Book end) o some near = at_end end _ (book_grown (end_of a end) thread o)
  after_grown law text thread (commands.Put end link) o some near = at_end end _ (put_grown (end_of a end) thread link (aired_octets text link (hand_of (end_of a end).hands thread) (end_of a end)) o)
  after_grown law text thread (commands.Deliver end link nth) o some near = at_end end _ (heard_grown (end_of a end) law.stored (end_of a (peer_of end)) o (some end) (near end))
  after_grown law text thread (commands.Alter end link nth number) o some near = at_end end _ (heard_grown (end_of a end) law.stored (end_of a (peer_of end)) o (some end) (near end))
  after_grown law text thread (commands.Forge end link lane key pn number body) o some near = at_end end _ (heard_grown (end_of a end) law.stored (end_of a (peer_of end)) o (some end) (near end))
  after_grown law text thread (commands.Again end link lane pos) o some near = at_end end _ (again_grown (end_of a end) link lane _ o)
  after_grown law text thread (commands.BarOut end lane to) o some near = λ e. at_bars end _ (with_end end (after_bar_out lane to (end_of a end)) a) e (at_end end _ (given_grown (end_of a end) lane (given_by lane to (end_of a end))) e)
  after_grown law text thread (commands.BarIn end nth) o some near = at_end end _ (request_grown (end_of a end) law.asked (bar_named a end nth) (near end))
  after_grown law text thread (commands.AckOut end lane) o some near = at_acks end (acks_made lane o (acks_of a end))
  after_grown law text thread (commands.AckIn end nth) o some near = at_end end _ (taken_grown (end_of a end) (ack_named a end nth))
  after_grown law text thread (commands.Install end) o some near = at_end end _ (made_same (end_of a end) (installed o (end_of a end).setup) (installed_window o (end_of a end).setup))
  after_grown law text thread (commands.Turn end) o some near = at_end end _ (turn_grown (end_of a end) o)
  after_grown law text thread (commands.Inject end link octets) o some near = at_end end _ (heard_grown (end_of a end) law.stored (end_of a (peer_of end)) o (some end) (near end))
  after_grown law text thread (commands.Power end link on) o some near = at_end end _ (made_same (end_of a end) (switched link on (end_of a end).setup) refl)
  after_grown law text thread (commands.MapAsk end entries) o some near = at_end end _ (made_same (end_of a end) (map_asked entries o (end_of a end).setup) (asked_window entries o (end_of a end).setup))
  after_grown law text thread (commands.MapTeardown end) o some near = at_end end _ (made_same (end_of a end) (map_torn o (end_of a end).setup) (torn_window o (end_of a end).setup))
  after_grown law text thread (commands.GiveUp end what) o some near = at_end end _ (made_same (end_of a end) (given what o (end_of a end).setup) (given_window what o (end_of a end).setup))

-- ---- a world

bounded_after : (steps : ℕ) (s t : EndState) → Grown s t → IsBounded steps s → IsBounded (suc steps) t
bounded_after steps s t g b = record {
  queues = λ l. omega (arith, b.queues l, (g.lanes l).queue);
  windows = λ l. omega (arith, b.windows l, (g.lanes l).window);
  near = λ l. (g.lanes l).near (b.near l);
  booked = omega (arith, b.booked, g.booked);
  aired = omega (arith, b.aired, g.aired);
  sized = g.sized b.sized;
}

pub roomy : (steps : ℕ) (s : EndState) → steps < step_limit → IsBounded steps s → IsRoomy s
roomy steps s lt b = record {
  queues = λ l. omega (arith, lt, b.queues l);
  windows = λ l. omega (arith, lt, b.windows l);
}

pub world_kept : NearLaws → (text : Sealing) (start : Start) (a : AirState) (steps : ℕ) (thread : ℕ) (command : Command) (o : Outcome) → steps < step_limit → IsWorld start a steps → IsWorld start (after text thread command o a) (suc steps)
world_kept law text start a steps thread command o lt w =
    let grown = after_grown a law text thread command o (λ e. (w.bounded e).sized) (λ e l. (w.bounded e).near l) in
    record {
      is_start = w.is_start;
      starts = λ e. (grown e).start_same ∙ w.starts e;
      bounded = λ e. bounded_after steps (end_of a e) (end_of (after text thread command o a) e) (grown e) (w.bounded e);
      few = omega (arith, lt);
    }

-- ---- the start

lane_begun : (P : LaneState → Type 0) → P no_lane → P no_management → (l : ℕ) → P (get_or no_lanes l no_lane)
lane_begun P p q l = all_hold no_lanes l (p, (p, (p, (p, (p, (p, (p, (p, (q, tt)))))))))
  where
    all_hold : (xs : List LaneState) (l : ℕ) → AllByRecursion P xs → P (get_or xs l no_lane)
    all_hold [] l h = p
    all_hold (x ∷ xs) zero h = h.0
    all_hold (x ∷ xs) (suc l) h = all_hold xs l h.1

end_bounded : (start : EndStart) → 1 ≤ start.window → start.window ≤ 256 → IsBounded 0 (started start)
end_bounded start some most = record {
  queues = lane_begun (λ lane. length lane.queue ≤ 0) (omega arith) (omega arith);
  windows = lane_begun (λ lane. lane.window.start ≤ 0) (omega arith) (omega arith);
  near = lane_begun (λ lane. IsNear lane.window) tt tt;
  booked = omega arith;
  aired = omega arith;
  sized = record { some_window = some; window_limit = most };
}

pub begun_world : (start : Start) → IsStart start → IsWorld start (begun start) 0
begun_world start is = record {
  is_start = is;
  starts = λ e. elim e as (λ (x : EndId). (end_of (begun start) x).start ≡ start_of start x) [ Ap ↦ refl | Sta ↦ refl ];
  bounded = λ e. elim e as (λ (x : EndId). IsBounded 0 (end_of (begun start) x)) [ Ap ↦ end_bounded start.ap (is.some_window Ap) (is.window_limit Ap) | Sta ↦ end_bounded start.sta (is.some_window Sta) (is.window_limit Sta) ];
  few = omega arith;
}
