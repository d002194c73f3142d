-- What holds of both ends and of the words after each legal history, and that each step keeps it.
use Rattle.std.proofs.Common.{◌≡◌, ℕ, zero, suc, ◌+◌, ◌<◌, ◌≤◌, Bool, true, false, eq-eqb, List, [], ◌∷◌, ◌++◌, length, get_or, Option, Some, None, Result, Ok, Err, refl, sym, ap, subst, ◌∙◌, arith}
use Rattle.std.specs.Prelude.{◌==◌, ◌&&◌, ◌||◌, if◌then◌else◌}
use Rattle.std.specs.List.{Contains, AllByRecursion}
use Rattle.std.proofs.lemmas.Bool.{both_ways, eqb-true, le-ltb}
use Rattle.wl_elem.specs.declared.fault.Refusal.{Refusal}
use Rattle.wl_elem.specs.declared.lane.EndId.{EndId}
use Rattle.wl_elem.specs.declared.lane.EndId.TheVariants.{Ap, Sta}
use Rattle.wl_elem.specs.declared.lane.Lane.{Lane}
use Rattle.wl_elem.specs.declared.lane.Lane.TheVariants as lanes
use Rattle.wl_elem.specs.Lanes.{same_end, at_place, peer_of, lane_index, lane_count, IsLane}
use Rattle.wl_frame.specs.Frame.{FrameValue}
use Rattle.wl_frame.specs.Sealing.{Sealing}
use Rattle.wl_number.specs.declared.numbers.Numbers.{Numbers}
use Rattle.wl_number.specs.NumberObject.{drawn, opened}
use Rattle.wl_number.specs.Bookings.{no_bookings}
use Rattle.wl_number.specs.OrderRule.{Ascending, list_at, list_of}
use Rattle.wl_replay.specs.Replay.{is_above, last_of, no_pairs}
use Rattle.wl_window.specs.Originating.{Sending, Acked, is_booked, booked_count}
use Rattle.wl_window.specs.declared.refusal.MoveRefusal.{MoveRefusal}
use Rattle.wl_window.specs.Reordering.{Arrived, Moved, Old, Doubled, Stored, arrived, requested}
use Rattle.wl_history.specs.declared.ack.Ack.{Ack}
use Rattle.wl_history.specs.declared.ack.Bar.{Bar}
use Rattle.wl_history.specs.declared.hand.Hand.{Hand}
use Rattle.wl_history.specs.declared.hand.Hand.TheVariants as hand
use Rattle.wl_history.specs.declared.arrival.Arrival.{Arrival}
use Rattle.wl_history.specs.declared.command.Command.{Command}
use Rattle.wl_history.specs.declared.command.Command.TheVariants as commands
use Rattle.wl_history.specs.declared.outcome.Outcome.{Outcome}
use Rattle.wl_history.specs.declared.outcome.Outcome.TheVariants as outcomes
use Rattle.wl_history.specs.declared.setup.Setup.{Setup}
use Rattle.wl_history.specs.declared.start.EndStart.{EndStart}
use Rattle.wl_history.specs.declared.start.Start.{Start}
use Rattle.wl_history.specs.declared.step.Step.{Step}
use Rattle.wl_history.specs.Ends.{IsStart, start_of, receive_size, send_size}
use Rattle.wl_history.specs.Hands.{hand_of}
use Rattle.wl_message.specs.Message.{message_of}
use Rattle.wl_message.specs.declared.changes.MapEntry.{MapEntry}
use Rattle.wl_history.specs.declared.command.Machine.{Machine}
use Rattle.wl_history.specs.Machines.{Made, IsMade, IsBodyOn, AreEntries, installed, switched, map_asked, map_torn, given, acted}
use Rattle.wl_history.specs.Words.{Terms, terms, terms_made, told_on, terms_heard, queue_by, msdus, setup_of, queued, body_at, booked, booked_with, send_key, key_booked, Airing, airings, airings_put, airings_again, Receiving, receiving, received, taken, passed_if, moved_to, key_turned}
use Rattle.wl_history.specs.Answers.{reserve_answer, book_answer, put_of, booked_at, again_of, octets_again, airing_of, aired_octets, moved_answer, bar_answer, turn_answer}
use Rattle.wl_history.specs.Hearing.{octets_of, Closed, Judged, Answered, ToOpen}
use Rattle.wl_history.specs.EndState.{EndState, LaneState, IsEnd, lane_at, no_lane, no_lanes, no_management, no_frames, started, was_aired_at, with_frame, let_up, with_moved, put_down, after_queue, after_reserve, after_book, after_put, after_arrived, after_hear, after_told, management, with_made, after_again, after_acked, after_taken, acked_by, after_given, after_bar_out, given_by, moved_by, after_moved, after_request, arrival_of, after_heard, hear_arrived, hear_answer, after_turn}
use Rattle.wl_history.specs.AirState.{AirState, end_of, with_end, with_acks, with_bars, ack_named, bar_named, octets_heard, begun, after, state_of}
use Rattle.wl_history.specs.Plain.{IsPlain}
use Rattle.wl_history.specs.Legal.{Fits, InRanges, IsAnswer, Legal, HeardIf, judged_at, judged_answer, opened_answer, booking_found}
use Rattle.wl_history.specs.Scripts.{step_of}
use Rattle.wl_history.specs.Sender.{has_position}
use Rattle.wl_history.specs.Stands.{LaneTells, Tells, EndStands}
use Rattle.wl_history.proofs.Lanes.{same_list, no_member}
use Rattle.wl_history.specs.Below.{NumberLaws, WindowLaws, MessageLaws}
use Rattle.wl_history.proofs.Sender.{lane_within}
use Rattle.wl_history.proofs.Keeping.{queue_kept, reserve_kept, given_back, booked_so, puts_down, aired_so, framed_kept, stored_kept, hear_kept, ack_kept, given_kept, moved_kept, made_kept, turn_kept}
use Rattle.wl_history.proofs.Making.{installed_made, switched_made, asked_made, torn_made, given_made}
use Rattle.wl_history.proofs.Telling.{queue_tells, sending_tells, booked_tells, down_tells, framed_tells, moved_tells, asked_tells, made_tells, tells_alike, turn_tells}
use Rattle.wl_history.proofs.Growing.{IsBooking, contains_within, booking_longer, queued_longer, booking_booked, Aired, aired_still, aired_more}
use Rattle.wl_history.proofs.Receiving.{Trans, Got, got_taken, got_asked, got_still}
use Rattle.wl_history.proofs.Cases.{reserve_cases, book_cases, put_cases, again_cases, at_there, plain_answer, found_there}

abbrev pub AiredAt : Start → EndId → List Step → Type 0
AiredAt start e steps = Aired (λ l. queued start e l steps) (booked e steps) (airings start e steps)

-- an item of a lane is a booking of its sender
abbrev pub IsItem : Start → EndId → ℕ → List Step → Arrival → Type 0
IsItem start sender l steps item = IsBooking (λ m. queued start sender m steps) (booked sender steps) l item.numbers item.body

abbrev pub GotAt : Start → EndId → ℕ → List Step → Type 0
GotAt start e l steps = Got (IsItem start (peer_of e) l steps) (receiving start e l steps)

pub record Sound (text : Sealing) (start : Start) (a : AirState) (steps : List Step) : Type 0 where
  pub ends : (e : EndId) → IsEnd (end_of a e)
  pub told : (e : EndId) → EndStands text start e (end_of a e) steps
  pub aired : (e : EndId) → AiredAt start e steps
  pub got : (e : EndId) (l : ℕ) → GotAt start e l steps

-- ---- the start

-- what holds of all members of a list, and of what stands for those that it lacks
all_hold : {A : Type 0} (P : A → Type 0) (xs : List A) (d : A) (l : ℕ) → AllByRecursion P xs → P d → P (get_or xs l d)
all_hold P [] d l h own = own
all_hold P (x ∷ xs) d zero h own = h.0
all_hold P (x ∷ xs) d (suc l) h own = all_hold P xs d l h.1 own

-- a list of one value alone
all_same : {A : Type 0} (xs : List A) (d : A) (l : ℕ) → AllByRecursion (λ x. x ≡ d) xs → get_or xs l d ≡ d
all_same xs d l h = all_hold (λ x. x ≡ d) xs d l h refl

nothing_at : (place : ℕ) → list_at no_bookings place ≡ []
nothing_at place = all_same no_bookings [] place (refl, (refl, (refl, (refl, (refl, (refl, (refl, (refl, (refl, tt)))))))))

-- what holds of a lane of data and of management, on which nothing was done yet
lane_begun : (P : LaneState → Type 0) → P no_lane → P no_management → (l : ℕ) → P (get_or no_lanes l no_lane)
lane_begun P p q l = all_hold P no_lanes no_lane l (p, (p, (p, (p, (p, (p, (p, (p, (q, tt))))))))) p

room_begun : (window l : ℕ) → window ≤ 256 → (if l == 8 then 1 else window) ≤ (get_or no_lanes l no_lane).room
room_begun window zero h = h
room_begun window (suc zero) h = h
room_begun window (suc (suc zero)) h = h
room_begun window (suc (suc (suc zero))) h = h
room_begun window (suc (suc (suc (suc zero)))) h = h
room_begun window (suc (suc (suc (suc (suc zero))))) h = h
room_begun window (suc (suc (suc (suc (suc (suc zero)))))) h = h
room_begun window (suc (suc (suc (suc (suc (suc (suc zero))))))) h = h
room_begun window (suc (suc (suc (suc (suc (suc (suc (suc zero)))))))) h = omega arith
room_begun window (suc (suc (suc (suc (suc (suc (suc (suc (suc l))))))))) h = at_most (suc (suc (suc (suc (suc (suc (suc (suc (suc l)))))))) == 8)
  where
    at_most : (b : Bool) → (if b then 1 else window) ≤ 256
    at_most true = omega arith
    at_most false = h

none_there : (place : ℕ) (n : Numbers) → Contains (list_at no_bookings place) n → ⊥
none_there place n is = no_member n (subst (λ (l : List Numbers). Contains l n) (nothing_at place) is)

none_marked : (pos : ℕ) → is_booked (let s : Sending = record { granted = 0; base = 0; marks = [] } in s) pos ≡ false
none_marked pos = ap (λ (b : Bool). b || false) (le-ltb pos 0 (omega arith))

no_position : (key pn l : ℕ) → get_or (opened key pn).positions l 0 ≡ 0
no_position key pn l = all_same (opened key pn).positions 0 l (refl, (refl, (refl, (refl, (refl, (refl, (refl, (refl, (refl, tt)))))))))

pub started_end : (start : EndStart) → 1 ≤ start.window → start.window ≤ 256 → IsEnd (started start)
started_end start some most = record {
  nine = refl;
  nine_pairs = refl;
  fifteen = refl;
  short = λ l pos. lane_begun (λ x. length (body_at x.queue pos) ≤ 2304) (omega arith) (omega arith) l;
  sender = record {
    nine = refl;
    nine_positions = refl;
    rule = record {
      ascending = λ place. subst (λ (l : List Numbers). Ascending l) (sym (nothing_at place)) tt;
      apart = λ place other a b ne is. absurd (none_there place a is);
    };
    last = λ place n is. absurd (none_there place n is);
    above = λ l n is. absurd (none_there l n is);
    queued = λ l n is. absurd (none_there l n is);
    marked = λ l pos. lane_begun (λ x. is_booked x.sending pos ≡ false) (none_marked pos) (none_marked pos) l ∙ ap (has_position pos) (sym (nothing_at l));
    numbered = λ l. lane_begun (λ x. booked_count x.sending ≡ 0) refl refl l ∙ ap (λ (ns : List Numbers). length ns) (sym (nothing_at l));
    counted = λ l. lane_begun (λ x. x.sending.granted ≡ 0) refl refl l ∙ ap (λ (ns : List Numbers). 0 + length ns) (sym (nothing_at l));
    within = λ l. lane_begun (λ x. x.sending.granted ≤ length x.queue) (omega arith) (omega arith) l;
    held = λ thread lane n is. absurd (cc is);
    of_lanes = λ thread lane is. absurd (cc is);
  };
  gapless = record { next = λ l. no_position start.first_key start.first_pn l ∙ ap (λ (ns : List Numbers). length ns) (sym (nothing_at l)) };
  sized = record { some_window = some; window_limit = most };
  roomy = λ l. room_begun start.window l most;
  managed = record { made = λ pos lt. absurd (omega (arith, lt)); idle = refl };
  token_fits = omega arith;
}

-- no body is queued on any lane
none_queued : (l : ℕ) → (if l == management then [] else []) ≡ (let none : List (List ℕ) = [] in none)
none_queued l = elim (l == management) as (λ (b : Bool). (if b then [] else []) ≡ (let none : List (List ℕ) = [] in none)) [ true ↦ refl | false ↦ refl ]

started_told : (text : Sealing) (start : Start) (e : EndId) → EndStands text start e (started (start_of start e)) []
started_told text start e = tells_alike text (start_of start e) e (started (start_of start e)) (λ l. []) no_bookings [] (λ l. receiving start e l []) (send_key (start_of start e) e []) (setup_of start e []) (record {
  start_is = refl;
  setup_is = refl;
  key_is = refl;
  lanes = λ l lt. lane_begun (λ lane. LaneTells l lane [] (receiving start e l []) []) (record { queue_is = refl; window = refl; released = refl; flags = λ pos. refl }) (record { queue_is = refl; window = refl; released = refl; flags = λ pos. refl }) l;
  booked_are = refl;
  last = λ l lt. all_same no_pairs None l (refl, (refl, (refl, (refl, (refl, (refl, (refl, (refl, (refl, tt)))))))));
  frames = λ link lt. all_same no_frames [] link (refl, (refl, (refl, (refl, (refl, (refl, (refl, (refl, (refl, (refl, (refl, (refl, (refl, (refl, (refl, tt)))))))))))))));
}) (λ l. queued start e l []) (λ l. sym (none_queued l))

pub sound_start : (text : Sealing) (start : Start) → IsStart start → Sound text start (begun start) []
sound_start text start is = record {
  ends = λ e. elim e as (λ (x : EndId). IsEnd (end_of (begun start) x)) [ Ap ↦ started_end start.ap (is.some_window Ap) (is.window_limit Ap) | Sta ↦ started_end start.sta (is.some_window Sta) (is.window_limit Sta) ];
  told = λ e. elim e as (λ (x : EndId). EndStands text start x (end_of (begun start) x) []) [ Ap ↦ started_told text start Ap | Sta ↦ started_told text start Sta ];
  aired = λ e a is. absurd (no_member a is);
  got = λ e lane. record { stored = tt; released_good = tt; rising = tt };
}

-- ---- a step

pub own_end : (start : Start) → IsStart start → (e : EndId) → (start_of start e).end ≡ e
own_end start is Ap = is.ap_end
own_end start is Sta = is.sta_end

module _ (laws : NumberLaws) (windows : WindowLaws) (messages : MessageLaws) (trans : Trans) (text : Sealing) (start : Start) (is_start : IsStart start) (a : AirState) (before : List Step) (sound : Sound text start a before) where
  -- the end that acts is the one that is looked at, or another
  by_end : (P : EndId → EndId → Bool → EndState → Type 0) (f : EndId → EndState) → ((x : EndId) → P x x true (f x)) → ((x y : EndId) → P x y false (end_of a y)) → (end e : EndId) → P end e (same_end end e) (end_of (with_end end (f end) a) e)
  by_end P f same other Ap Ap = same Ap
  by_end P f same other Ap Sta = other Ap Sta
  by_end P f same other Sta Ap = other Sta Ap
  by_end P f same other Sta Sta = same Sta

  abbrev setup_at : EndId → Setup
  setup_at e = setup_of start e before

  -- the words of the end, with others for some
  abbrev Told : EndId → EndState → (ℕ → List (List ℕ)) → List (List Numbers) → List Airing → (ℕ → Receiving) → ℕ → Type 0
  Told e s queue bookings aired got key = Tells text (start_of start e) e s queue bookings aired got key (setup_at e)

  abbrev queues : EndId → ℕ → List (List ℕ)
  queues e l = queued start e l before

  abbrev gots : EndId → ℕ → Receiving
  gots e l = receiving start e l before

  abbrev key_of : EndId → ℕ
  key_of e = send_key (start_of start e) e before

  abbrev Still : EndId → EndState → Type 0
  Still e s = Told e s (queues e) (booked e before) (airings start e before) (gots e) (key_of e)

  -- what is booked on a lane is of a queued body
  word_queued : (e : EndId) (l : ℕ) (n : Numbers) → Contains (list_at (end_of a e).booked l) n → n.pos < length (queued start e l before)
  word_queued e l n there =
      let s = end_of a e in
      let lt : l < lane_count = omega (arith, contains_within s.booked l n there, (sound.ends e).sender.nine) in
      let pos = (sound.ends e).sender.queued l n there in
      omega (arith, pos, ap (λ (q : List (List ℕ)). length q) ((sound.told e).lanes l lt).queue_is)

  -- and its body is the one queued there
  booking_is : (e : EndId) (l : ℕ) (n : Numbers) → Contains (list_at (end_of a e).booked l) n → IsBooking (queues e) (booked e before) l n (body_at (queued start e l before) n.pos)
  booking_is e l n there = record {
    booked = subst (λ (bs : List (List Numbers)). Contains (list_at bs l) n) (sound.told e).booked_are there;
    within = word_queued e l n there;
    same = refl;
  }

  -- ---- whatever is done, queues only grow

  booking_still : (step : Step) (e : EndId) (l : ℕ) (n : Numbers) (body : List ℕ) → IsBooking (queues e) (booked e before) l n body → IsBooking (λ m. queued start e m (step ∷ before)) (booked e before) l n body
  booking_still step e l n body b = booking_longer (queues e) (λ m. queued start e m (step ∷ before)) (λ m. queued_longer start e m step before) (booked e before) l n body b

  aired_longer : (step : Step) (e : EndId) → Aired (λ l. queued start e l (step ∷ before)) (booked e before) (airings start e before)
  aired_longer step e = aired_still (queues e) (λ l. queued start e l (step ∷ before)) (booked e before) (booked e before) (airings start e before) (booking_still step e) (sound.aired e)

  abbrev Later : Step → EndId → ℕ → Arrival → Type 0
  Later step sender l item = IsBooking (λ m. queued start sender m (step ∷ before)) (booked sender before) l item.numbers item.body

  -- what was received is of a booking still
  still_got : (step : Step) (e : EndId) (l : ℕ) (r : Receiving) → Got (IsItem start (peer_of e) l before) r → Got (Later step (peer_of e) l) r
  still_got step e l r g = got_still (IsItem start (peer_of e) l before) (Later step (peer_of e) l) (λ item b. booking_still step (peer_of e) l item.numbers item.body b) r g

  got_longer : (step : Step) (e : EndId) (l : ℕ) → Got (Later step (peer_of e) l) (gots e l)
  got_longer step e l = still_got step e l (gots e l) (sound.got e l)

  -- ---- queue

  module _ (thread : ℕ) (end : EndId) (tid : ℕ) (body : List ℕ) (outcome : Outcome) where
    abbrev queue_step : Step
    queue_step = step_of thread (commands.Queue end tid body) outcome

    -- a TID is no place of management
    data_more : (b : Bool) (l : ℕ) (bodies own : List (List ℕ)) → tid < 8 → (here : Bool) → at_place (lanes.Tid tid) l ≡ here → (managed : Bool) → (l == management) ≡ managed
        → (if here then (if managed then bodies else own) ++ body ∷ [] else (if managed then bodies else own)) ≡ (if managed then bodies else (if here then own ++ body ∷ [] else own))
    data_more b l bodies own lt true here true managed = absurd (let at : tid ≡ l = eqb-true tid l here in let place : l ≡ 8 = eqb-true l management managed in omega (arith, lt, at, place))
    data_more b l bodies own lt true here false managed = refl
    data_more b l bodies own lt false here true managed = refl
    data_more b l bodies own lt false here false managed = refl

    queue_own : (x : EndId) → tid < 8 → Told x (after_queue tid body (end_of a x)) (queue_by (terms start x before).bodies (λ l. if at_place (lanes.Tid tid) l then msdus x l before ++ body ∷ [] else msdus x l before)) (booked x before) (airings start x before) (gots x) (key_of x)
    queue_own x lt =
        tells_alike text (start_of start x) x (after_queue tid body (end_of a x)) (λ l. if at_place (lanes.Tid tid) l then queues x l ++ body ∷ [] else queues x l) (booked x before) (airings start x before) (gots x) (key_of x) (setup_at x)
        (queue_tells text (start_of start x) x (end_of a x) (queues x) (booked x before) (airings start x before) (gots x) (key_of x) (setup_at x) (sound.ends x) (sound.told x) tid body)
        (queue_by (terms start x before).bodies (λ l. if at_place (lanes.Tid tid) l then msdus x l before ++ body ∷ [] else msdus x l before))
        (λ l. data_more true l (terms start x before).bodies (msdus x l before) lt (at_place (lanes.Tid tid) l) refl (l == management) refl)

    sound_queue : Fits start (commands.Queue end tid body) → Sound text start (after text thread (commands.Queue end tid body) outcome a) (step_of thread (commands.Queue end tid body) outcome ∷ before)
    sound_queue fits = record {
      ends = by_end (λ end e b s. IsEnd s) (λ x. after_queue tid body (end_of a x)) (λ x. queue_kept (end_of a x) tid body (sound.ends x) fits.2 (λ at. absurd (omega (arith, fits.0, at)))) (λ x y. sound.ends y) end;
      told = by_end (λ end e b s. Told e s (queue_by (terms start e before).bodies (λ l. if b && at_place (lanes.Tid tid) l then msdus e l before ++ body ∷ [] else msdus e l before)) (booked e before) (airings start e before) (gots e) (key_of e)) (λ x. after_queue tid body (end_of a x))
          (λ x. queue_own x fits.0) (λ x y. sound.told y) end;
      aired = aired_longer queue_step;
      got = got_longer queue_step;
    }

  -- ---- reserve

  module _ (thread : ℕ) (end : EndId) (lane : Lane) (outcome : Outcome) (is_lane : IsLane lane) where
    abbrev reserve_told : EndId → Outcome
    reserve_told x = reserve_answer (hand_of (end_of a x).hands thread) (length (lane_at (end_of a x) (lane_index lane)).queue) (lane_at (end_of a x) (lane_index lane)).sending (send_size (end_of a x).setup (lane_index lane))

    abbrev Reserves : EndId → Type 0
    Reserves x = outcome ≡ reserve_told x

    reserve_ends : (x : EndId) → IsEnd (after_reserve thread lane (reserve_told x) (end_of a x))
    reserve_ends x =
        let s = end_of a x in
        reserve_cases (λ o. IsEnd (after_reserve thread lane o s)) (hand_of s.hands thread) (length (lane_at s (lane_index lane)).queue) (lane_at s (lane_index lane)).sending (send_size s.setup (lane_index lane)) (sound.ends x) (sound.ends x) (sound.ends x)
        (λ empty more. reserve_kept s thread lane (sound.ends x) is_lane empty (λ e. both_ways _ more (eq-eqb (lane_at s (lane_index lane)).sending.granted (length (lane_at s (lane_index lane)).queue) e)))

    reserve_tells : (x : EndId) → Still x (after_reserve thread lane (reserve_told x) (end_of a x))
    reserve_tells x =
        let s = end_of a x in
        reserve_cases (λ o. Still x (after_reserve thread lane o s)) (hand_of s.hands thread) (length (lane_at s (lane_index lane)).queue) (lane_at s (lane_index lane)).sending (send_size s.setup (lane_index lane)) (sound.told x) (sound.told x) (sound.told x)
        (λ empty more. sending_tells text (start_of start x) x s (queues x) (booked x before) (airings start x before) (gots x) (key_of x) (setup_at x) (sound.ends x) (sound.told x) (lane_index lane) _ _)

    sound_reserve : IsAnswer text thread (commands.Reserve end lane) a outcome → Sound text start (after text thread (commands.Reserve end lane) outcome a) (step_of thread (commands.Reserve end lane) outcome ∷ before)
    sound_reserve is = record {
      ends = λ e. by_end (λ end e b s. Reserves end → IsEnd s) (λ x. after_reserve thread lane outcome (end_of a x)) (λ x own. subst (λ (o : Outcome). IsEnd (after_reserve thread lane o (end_of a x))) (sym own) (reserve_ends x)) (λ x y own. sound.ends y) end e is;
      told = λ e. by_end (λ end e b s. Reserves end → Still e s) (λ x. after_reserve thread lane outcome (end_of a x)) (λ x own. subst (λ (o : Outcome). Still x (after_reserve thread lane o (end_of a x))) (sym own) (reserve_tells x)) (λ x y own. sound.told y) end e is;
      aired = sound.aired;
      got = sound.got;
    }

  -- ---- book

  module _ (thread : ℕ) (end : EndId) (outcome : Outcome) (is : IsAnswer text thread (commands.Book end) a outcome) where
    abbrev book_step : Step
    book_step = step_of thread (commands.Book end) outcome

    abbrev book_told : EndId → Outcome
    book_told x = book_answer (hand_of (end_of a x).hands thread) (end_of a x).numbers

    abbrev Books : EndId → Type 0
    Books x = outcome ≡ book_told x

    book_ends : (x : EndId) → IsEnd (after_book thread (book_told x) (end_of a x))
    book_ends x =
        let s = end_of a x in
        book_cases (λ o. IsEnd (after_book thread o s)) (hand_of s.hands thread) s.numbers (sound.ends x) (λ lane held. given_back s thread lane (sound.ends x) held) (λ lane held. booked_so laws windows s thread lane (sound.ends x) held)

    book_tells : (x : EndId) → Told x (after_book thread (book_told x) (end_of a x)) (queues x) (booked_with (book_told x) (booked x before)) (airings start x before) (gots x) (key_booked (book_told x) (key_of x))
    book_tells x =
        let s = end_of a x in
        book_cases (λ o. Told x (after_book thread o s) (queues x) (booked_with o (booked x before)) (airings start x before) (gots x) (key_booked o (key_of x))) (hand_of s.hands thread) s.numbers (sound.told x)
        (λ lane held. sending_tells text (start_of start x) x s (queues x) (booked x before) (airings start x before) (gots x) (key_of x) (setup_at x) (sound.ends x) (sound.told x) (lane_index lane) _ _)
        (λ lane held. booked_tells text (start_of start x) x s (queues x) (booked x before) (airings start x before) (gots x) (key_of x) (setup_at x) (sound.ends x) (sound.told x) thread lane)

    abbrev Grows : EndId → List (List Numbers) → Type 0
    Grows e bookings = (l : ℕ) (n : Numbers) (body : List ℕ) → IsBooking (queues e) (booked e before) l n body → IsBooking (queues e) bookings l n body

    grows : (x : EndId) → Grows x (booked_with (book_told x) (booked x before))
    grows x =
        let s = end_of a x in
        book_cases (λ o. Grows x (booked_with o (booked x before))) (hand_of s.hands thread) s.numbers (λ l n body b. b) (λ lane held l n body b. b)
        (λ lane held. booking_booked (queues x) (booked x before) lane (drawn s.numbers lane)
        (omega (arith, lane_within lane ((sound.ends x).sender.of_lanes thread lane held), (sound.ends x).sender.nine, ap (λ (bs : List (List Numbers)). length bs) (sound.told x).booked_are)))

    book_still : (e : EndId) → Grows e (booked e (book_step ∷ before))
    book_still e = by_end (λ end e b s. Books end → Grows e (if b then booked_with outcome (booked e before) else booked e before)) (λ x. end_of a x)
        (λ x own. subst (λ (o : Outcome). Grows x (booked_with o (booked x before))) (sym own) (grows x)) (λ x y own l n body b. b) end e is

    sound_book : Sound text start (after text thread (commands.Book end) outcome a) (step_of thread (commands.Book end) outcome ∷ before)
    sound_book = record {
      ends = λ e. by_end (λ end e b s. Books end → IsEnd s) (λ x. after_book thread outcome (end_of a x)) (λ x own. subst (λ (o : Outcome). IsEnd (after_book thread o (end_of a x))) (sym own) (book_ends x)) (λ x y own. sound.ends y) end e is;
      told = λ e. by_end (λ end e b s. Books end → Told e s (queues e) (if b then booked_with outcome (booked e before) else booked e before) (airings start e before) (gots e) (if b then key_booked outcome (key_of e) else key_of e)) (λ x. after_book thread outcome (end_of a x))
          (λ x own. subst (λ (o : Outcome). Told x (after_book thread o (end_of a x)) (queues x) (booked_with o (booked x before)) (airings start x before) (gots x) (key_booked o (key_of x))) (sym own) (book_tells x)) (λ x y own. sound.told y) end e is;
      aired = λ e. aired_still (queues e) (queues e) (booked e before) (booked e (book_step ∷ before)) (airings start e before) (book_still e) (sound.aired e);
      got = λ e l. got_still (IsItem start (peer_of e) l before) (λ item. IsBooking (queues (peer_of e)) (booked (peer_of e) (book_step ∷ before)) l item.numbers item.body) (λ item b. book_still (peer_of e) l item.numbers item.body b) (gots e l) (sound.got e l);
    }

  -- ---- a frame more

  abbrev new_airing : EndId → ℕ → Lane → Numbers → Airing
  new_airing x link lane n = record { link = link; lane = lane; numbers = n; retry = was_aired_at (lane_at (end_of a x) (lane_index lane)).aired n.pos; body = body_at (queued start x (lane_index lane) before) n.pos }

  record Framed (x : EndId) (link : ℕ) (lane : Lane) (n : Numbers) : Type 0 where
    pub told : Told x (with_frame link (octets_of text (end_of a x).start (end_of a x).start.end (airing_of link lane n (lane_at (end_of a x) (lane_index lane)))) lane n (end_of a x)) (queues x) (booked x before) (airings start x before ++ new_airing x link lane n ∷ []) (gots x) (key_of x)
    pub aired : Aired (queues x) (booked x before) (airings start x before ++ new_airing x link lane n ∷ [])

  framed_so : (x : EndId) (link : ℕ) (lane : Lane) (n : Numbers) → Contains (list_of (end_of a x).booked lane) n → IsLane lane → Framed x link lane n
  framed_so x link lane n there is_lane =
      let s = end_of a x in
      let k = lane_index lane in
      let new : Airing = new_airing x link lane n in
      let octets = octets_of text s.start s.start.end (airing_of link lane n (lane_at s k)) in
      let octets_are : octets ≡ octets_of text (start_of start x) x new =
      ap (λ (st : EndStart). octets_of text st st.end (airing_of link lane n (lane_at s k))) (sound.told x).start_is
      ∙ ap (λ (e : EndId). octets_of text (start_of start x) e (airing_of link lane n (lane_at s k))) (own_end start is_start x)
      ∙ ap (λ (q : List (List ℕ)). octets_of text (start_of start x) x (record { link = link; lane = lane; numbers = n; retry = was_aired_at (lane_at s k).aired n.pos; body = body_at q n.pos })) ((sound.told x).lanes k (lane_within lane is_lane)).queue_is in
      record {
        told = framed_tells text (start_of start x) x s (queues x) (booked x before) (airings start x before) (gots x) (key_of x) (setup_at x) (sound.ends x) (sound.told x) new octets octets_are;
        aired = aired_more (queues x) (booked x before) (airings start x before) new (record { booking = booking_is x k n there; of_lane = is_lane }) (sound.aired x);
      }

  -- ---- put

  module _ (thread : ℕ) (end : EndId) (link : ℕ) (outcome : Outcome) where
    abbrev Puts : EndId → Type 0
    Puts x = outcome ≡ put_of link (hand_of (end_of a x).hands thread) (end_of a x)

    abbrev put_end : EndId → EndState
    put_end x = after_put thread link (aired_octets text link (hand_of (end_of a x).hands thread) (end_of a x)) outcome (end_of a x)

    -- what a put with this answer leaves
    record Put (x : EndId) (held : Hand) (o : Outcome) : Type 0 where
      pub stays : IsEnd (after_put thread link (aired_octets text link held (end_of a x)) o (end_of a x))
      pub told : Told x (after_put thread link (aired_octets text link held (end_of a x)) o (end_of a x)) (queues x) (booked x before) (airings_put start x before link o (airings start x before)) (gots x) (key_of x)
      pub aired : Aired (queues x) (booked x before) (airings_put start x before link o (airings start x before))

    down : (x : EndId) (held : Hand) → hand_of (end_of a x).hands thread ≡ held → IsEnd (put_down thread held (end_of a x))
    down x hand.Empty is = sound.ends x
    down x (hand.Reserve lane) is = sound.ends x
    down x (hand.Booking lane n) is = puts_down (end_of a x) thread lane n (sound.ends x) is

    down_told : (x : EndId) → Still x (put_down thread (hand_of (end_of a x).hands thread) (end_of a x))
    down_told x = down_tells text (start_of start x) x (end_of a x) (queues x) (booked x before) (airings start x before) (gots x) (key_of x) (setup_at x) (sound.told x) thread (hand_of (end_of a x).hands thread)

    sent : (x : EndId) (lane : Lane) (n : Numbers) → hand_of (end_of a x).hands thread ≡ hand.Booking lane n → Put x (hand.Booking lane n) (outcomes.Put lane n (was_aired_at (lane_at (end_of a x) (lane_index lane)).aired n.pos))
    sent x lane n held =
        let s = end_of a x in
        let there = (sound.ends x).sender.held thread lane n held in
        let framed = framed_so x link lane n there.0 there.1 in
        let octets = octets_of text s.start s.start.end (airing_of link lane n (lane_at s (lane_index lane))) in
        record {
          stays = subst (λ (h : Hand). IsEnd (put_down thread h (with_frame link octets lane n s))) (sym held) (aired_so s thread lane n link octets (sound.ends x) held);
          told = down_tells text (start_of start x) x (with_frame link octets lane n s) (queues x) (booked x before) (airings start x before ++ new_airing x link lane n ∷ []) (gots x) (key_of x) (setup_at x) framed.told thread (hand_of s.hands thread);
          aired = framed.aired;
        }

    put : (x : EndId) (held : Hand) → hand_of (end_of a x).hands thread ≡ held → Put x held (put_of link held (end_of a x))
    put x hand.Empty is = record { stays = down x (hand_of (end_of a x).hands thread) refl; told = down_told x; aired = sound.aired x }
    put x (hand.Reserve lane) is = record { stays = down x (hand_of (end_of a x).hands thread) refl; told = down_told x; aired = sound.aired x }
    put x (hand.Booking lane n) is =
        put_cases (Put x (hand.Booking lane n)) lane n _ _ _
        (record { stays = down x (hand_of (end_of a x).hands thread) refl; told = down_told x; aired = sound.aired x })
        (λ why. record { stays = down x (hand_of (end_of a x).hands thread) refl; told = down_told x; aired = sound.aired x })
        (λ none. sent x lane n is)

    put_all : (x : EndId) → Puts x → Put x (hand_of (end_of a x).hands thread) outcome
    put_all x own = subst (Put x (hand_of (end_of a x).hands thread)) (sym own) (put x (hand_of (end_of a x).hands thread) refl)

    sound_put : IsAnswer text thread (commands.Put end link) a outcome → Sound text start (after text thread (commands.Put end link) outcome a) (step_of thread (commands.Put end link) outcome ∷ before)
    sound_put is = record {
      ends = λ e. by_end (λ end e b s. Puts end → IsEnd s) put_end (λ x own. (put_all x own).stays) (λ x y own. sound.ends y) end e is;
      told = λ e. by_end (λ end e b s. Puts end → Told e s (queues e) (booked e before) (if b then airings_put start e before link outcome (airings start e before) else airings start e before) (gots e) (key_of e)) put_end (λ x own. (put_all x own).told) (λ x y own. sound.told y) end e is;
      aired = λ e. by_end (λ end e b s. Puts end → Aired (queues e) (booked e before) (if b then airings_put start e before link outcome (airings start e before) else airings start e before)) put_end (λ x own. (put_all x own).aired) (λ x y own. sound.aired y) end e is;
      got = sound.got;
    }

  -- ---- again

  module _ (thread : ℕ) (end : EndId) (link : ℕ) (lane : Lane) (pos : ℕ) (outcome : Outcome) (is_lane : IsLane lane) where
    abbrev found_at : EndId → Option Numbers
    found_at x = booked_at (end_of a x) lane pos

    abbrev Agains : EndId → Type 0
    Agains x = outcome ≡ again_of link lane (found_at x) (end_of a x)

    abbrev again_end : EndId → EndState
    again_end x = after_again link lane (octets_again text link lane (found_at x) (end_of a x)) outcome (end_of a x)

    -- what an airing of a booking that was named leaves, with this answer
    record Again (x : EndId) (found : Option Numbers) (o : Outcome) : Type 0 where
      pub stays : IsEnd (after_again link lane (octets_again text link lane found (end_of a x)) o (end_of a x))
      pub told : Told x (after_again link lane (octets_again text link lane found (end_of a x)) o (end_of a x)) (queues x) (booked x before) (airings_again start x before link lane o (airings start x before)) (gots x) (key_of x)
      pub aired : Aired (queues x) (booked x before) (airings_again start x before link lane o (airings start x before))

    sent_again : (x : EndId) (n : Numbers) → found_at x ≡ Some n → Again x (Some n) (outcomes.PutAgain n (was_aired_at (lane_at (end_of a x) (lane_index lane)).aired n.pos))
    sent_again x n found =
        let framed = framed_so x link lane n (at_there pos (list_of (end_of a x).booked lane) n found) is_lane in
        record { stays = framed_kept (end_of a x) lane n link _ (sound.ends x); told = framed.told; aired = framed.aired }

    again : (x : EndId) (found : Option Numbers) → found_at x ≡ found → Again x found (again_of link lane found (end_of a x))
    again x None is = record { stays = sound.ends x; told = sound.told x; aired = sound.aired x }
    again x (Some n) is =
        again_cases (Again x (Some n)) n _ _ _
        (record { stays = sound.ends x; told = sound.told x; aired = sound.aired x })
        (λ why. record { stays = sound.ends x; told = sound.told x; aired = sound.aired x })
        (λ none. sent_again x n is)

    again_all : (x : EndId) → Agains x → Again x (found_at x) outcome
    again_all x own = subst (Again x (found_at x)) (sym own) (again x (found_at x) refl)

    sound_again : IsAnswer text thread (commands.Again end link lane pos) a outcome → Sound text start (after text thread (commands.Again end link lane pos) outcome a) (step_of thread (commands.Again end link lane pos) outcome ∷ before)
    sound_again is = record {
      ends = λ e. by_end (λ end e b s. Agains end → IsEnd s) again_end (λ x own. (again_all x own).stays) (λ x y own. sound.ends y) end e is;
      told = λ e. by_end (λ end e b s. Agains end → Told e s (queues e) (booked e before) (if b then airings_again start e before link lane outcome (airings start e before) else airings start e before) (gots e) (key_of e)) again_end (λ x own. (again_all x own).told) (λ x y own. sound.told y) end e is;
      aired = λ e. by_end (λ end e b s. Agains end → Aired (queues e) (booked e before) (if b then airings_again start e before link lane outcome (airings start e before) else airings start e before)) again_end (λ x own. (again_all x own).aired) (λ x y own. sound.aired y) end e is;
      got = sound.got;
    }

  -- ---- frames that are heard

  -- the bodies of management that the peer of an end made
  abbrev peers : EndId → List (List ℕ)
  peers x = (terms start (peer_of x) before).bodies

  -- the words of the end, with other terms, and with other for what it received
  abbrev Agreed : EndId → Terms → EndState → (ℕ → Receiving) → Type 0
  Agreed x t s got = Tells text (start_of start x) x s (queue_by t.bodies (λ l. msdus x l before)) (booked x before) (airings start x before) got (key_of x) t.setup

  -- what a frame that was heard with this answer leaves
  record Heard (x : EndId) (o : Outcome) : Type 0 where
    pub stays : IsEnd (after_heard (end_of a (peer_of x)) o (end_of a x))
    pub told : Agreed x (terms_heard (peers x) o (terms start x before)) (after_heard (end_of a (peer_of x)) o (end_of a x)) (λ l. received start x l before o (gots x l))
    pub got : (l : ℕ) → Got (IsItem start (peer_of x) l before) (received start x l before o (gots x l))

  quiet : (x : EndId) (o : Outcome) → IsPlain o → Heard x o
  quiet x (outcomes.Stored lane number n up) plain = absurd plain
  quiet x other plain = record { stays = sound.ends x; told = sound.told x; got = sound.got x }

  module _ (x : EndId) (lane : Lane) (number : ℕ) (n : Numbers) (there : Contains (list_of (end_of a (peer_of x)).booked lane) n) where
    abbrev s : EndState
    s = end_of a x

    abbrev sender : EndState
    sender = end_of a (peer_of x)

    abbrev size : ℕ
    size = receive_size s.setup (lane_index lane)

    got_at : (l : ℕ) (b : Bool) → at_place lane l ≡ b
        → Got (IsItem start (peer_of x) l before) (if b then taken (arrived (gots x l).window number (receive_size (setup_at x) l) (record { numbers = n; body = body_at (queued start (peer_of x) l before) n.pos })) (gots x l) else gots x l)
    got_at l true at =
        got_taken (IsItem start (peer_of x) l before) trans (gots x l) number (receive_size (setup_at x) l) (record { numbers = n; body = body_at (queued start (peer_of x) l before) n.pos })
        (booking_is (peer_of x) l n (subst (λ (ns : List Numbers). Contains ns n) (same_list sender.booked lane l at) there)) (sound.got x l)
    got_at l false at = sound.got x l

    -- a booking of management is of a body that an end makes
    body_made : (at : Lane) → Contains (list_of sender.booked at) n → IsBodyOn at (body_at (lane_at sender (lane_index at)).queue n.pos)
    body_made (lanes.Tid tid) is = tt
    body_made lanes.Management is = (sound.ends (peer_of x)).managed.made n.pos ((sound.ends (peer_of x)).sender.queued management n is)

    abbrev got_then : List ℕ → ℕ → Receiving
    got_then up l = received start x l before (outcomes.Stored lane number n up) (gots x l)

    -- a body that is released is the same at the end and in the words, where that tells
    abbrev IsSame : Lane → List ℕ → List ℕ → Type 0
    IsSame (lanes.Tid tid) body word = Unit {0}
    IsSame lanes.Management body word = body ≡ word

    same_word : (at : Lane) → body_at (lane_at sender (lane_index at)).queue n.pos ≡ body_at (queued start (peer_of x) (lane_index at) before) n.pos → IsSame at (body_at (lane_at sender (lane_index at)).queue n.pos) (body_at (peers x) n.pos)
    same_word (lanes.Tid tid) same = tt
    same_word lanes.Management same = same

    -- it acts
    told_so : (at : Lane) (body word : List ℕ) (t : EndState) (got : ℕ → Receiving) → IsEnd t → IsSame at body word → Agreed x (terms start x before) t got → Agreed x (told_on at word (terms start x before)) (after_told at body t) got
    told_so (lanes.Tid tid) body word t got is same h = h
    told_so lanes.Management body word t got is same h =
        subst (λ (w : List ℕ). Agreed x (told_on lanes.Management w (terms start x before)) (after_told lanes.Management body t) got) same
        (made_tells text (start_of start x) x t (terms start x before).bodies (λ l. msdus x l before) (booked x before) (airings start x before) got (key_of x) (setup_at x) is h (acted (message_of body)))

    by_come : (b : Bool) → is_above (last_of s.last lane) n.key n.pn ≡ b → (come : Arrived Arrival) → arrived (lane_at s (lane_index lane)).window number size (arrival_of sender lane n) ≡ come
        → Heard x (if b then hear_arrived lane number n (last_of s.last lane) come else outcomes.Replay)
    by_come false above come is = quiet x outcomes.Replay tt
    by_come true above Old is = quiet x outcomes.OldNumber tt
    by_come true above Doubled is = quiet x outcomes.Double tt
    by_come true above (Stored moved) is =
        let item = arrival_of sender lane n in
        let up = (let_up (last_of s.last lane) moved.up).positions in
        let leaves : after_hear lane number size item s ≡ after_told lane item.body (with_moved lane moved s) =
        ap (λ (b : Bool). if b then after_arrived lane item.body (arrived (lane_at s (lane_index lane)).window number size item) s else s) above ∙ ap (λ (c : Arrived Arrival). after_arrived lane item.body c s) is in
        let lt : lane_index lane < lane_count = omega (arith, contains_within sender.booked (lane_index lane) n there, (sound.ends (peer_of x)).sender.nine) in
        let body : body_at (lane_at sender (lane_index lane)).queue n.pos ≡ body_at (queued start (peer_of x) (lane_index lane) before) n.pos = ap (λ (q : List (List ℕ)). body_at q n.pos) ((sound.told (peer_of x)).lanes (lane_index lane) lt).queue_is in
        let moved_is : Agreed x (terms start x before) (with_moved lane moved s) (got_then up) =
        moved_tells text (start_of start x) x s (queues x) (booked x before) (airings start x before) (gots x) (key_of x) (setup_at x) (sound.ends x) (sound.told x) lane number item moved is (queues (peer_of x)) body in
        record {
          stays = hear_kept messages s lane number item (sound.ends x) (body_made lane there);
          told = subst (λ (t : EndState). Agreed x (terms_heard (peers x) (outcomes.Stored lane number n up) (terms start x before)) t (got_then up)) (sym leaves)
              (told_so lane item.body (body_at (peers x) n.pos) (with_moved lane moved s) (got_then up) (stored_kept s lane number item moved (sound.ends x) is) (same_word lane body) moved_is);
          got = λ l. got_at l (at_place lane l) refl;
        }

    heard_booked : Heard x (hear_answer lane number size (arrival_of sender lane n) s)
    heard_booked = by_come (is_above (last_of s.last lane) n.key n.pn) refl (arrived (lane_at s (lane_index lane)).window number size (arrival_of sender lane n)) refl

  opened_heard : (x : EndId) (c : Closed) (found : Option Numbers) → ((n : Numbers) → found ≡ Some n → Contains (list_of (end_of a (peer_of x)).booked c.lane) n) → Heard x (opened_answer (end_of a x) (end_of a (peer_of x)) c found)
  opened_heard x c None there = quiet x outcomes.NotOpened tt
  opened_heard x c (Some n) there = heard_booked x c.lane c.number n (there n refl)

  judged_heard : (x : EndId) (link : ℕ) (reading : Result FrameValue Refusal) (j : Judged) → judged_at (end_of a x) link reading ≡ j → Heard x (judged_answer text (end_of a x) (end_of a (peer_of x)) j)
  judged_heard x link reading (Answered outcome) is = quiet x outcome (plain_answer (end_of a x).start (end_of a x).setup (end_of a x).start.end link reading outcome is)
  judged_heard x link reading (ToOpen c) is =
      opened_heard x c (booking_found text (end_of a x) (end_of a (peer_of x)) c)
      (found_there text (end_of a x).start (end_of a x).start.end c (lane_at (end_of a (peer_of x)) (lane_index c.lane)).queue (list_of (end_of a (peer_of x)).booked c.lane))

  heard_if : (x : EndId) (link : ℕ) (octets : Option (List ℕ)) (o : Outcome) → HeardIf text (end_of a x) (end_of a (peer_of x)) link octets o → Heard x o
  heard_if x link None o is = subst (Heard x) (sym is) (quiet x outcomes.NotThere tt)
  heard_if x link (Some octets) o (reading, read, is) = subst (Heard x) (sym is) (judged_heard x link reading (judged_at (end_of a x) link reading) refl)

  module _ (end : EndId) (link : ℕ) (octets : EndId → Option (List ℕ)) (outcome : Outcome) where
    abbrev Hears : EndId → Type 0
    Hears x = HeardIf text (end_of a x) (end_of a (peer_of x)) link (octets x) outcome

    abbrev heard_end : EndId → EndState
    heard_end x = after_heard (end_of a (peer_of x)) outcome (end_of a x)

    heard_all : (x : EndId) → Hears x → Heard x outcome
    heard_all x own = heard_if x link (octets x) outcome own

    heard_ends : Hears end → (e : EndId) → IsEnd (end_of (with_end end (heard_end end) a) e)
    heard_ends is e = by_end (λ end e b s. Hears end → IsEnd s) heard_end (λ x own. (heard_all x own).stays) (λ x y own. sound.ends y) end e is

    heard_told : Hears end → (e : EndId) → Agreed e (if same_end end e then terms_heard (peers e) outcome (terms start e before) else terms start e before) (end_of (with_end end (heard_end end) a) e) (λ l. if same_end end e then received start e l before outcome (gots e l) else gots e l)
    heard_told is e = by_end (λ end e b s. Hears end → Agreed e (if b then terms_heard (peers e) outcome (terms start e before) else terms start e before) s (λ l. if b then received start e l before outcome (gots e l) else gots e l)) heard_end (λ x own. (heard_all x own).told) (λ x y own. sound.told y) end e is

    heard_got : Hears end → (e : EndId) (l : ℕ) → Got (IsItem start (peer_of e) l before) (if same_end end e then received start e l before outcome (gots e l) else gots e l)
    heard_got is e = by_end (λ end e b s. Hears end → (l : ℕ) → Got (IsItem start (peer_of e) l before) (if b then received start e l before outcome (gots e l) else gots e l)) heard_end (λ x own. (heard_all x own).got) (λ x y own. sound.got y) end e is

  abbrev SoundThen : ℕ → Command → Outcome → Type 0
  SoundThen thread command outcome = IsAnswer text thread command a outcome → Sound text start (after text thread command outcome a) (step_of thread command outcome ∷ before)

  sound_deliver : (thread : ℕ) (end : EndId) (link : ℕ) (nth : Option ℕ) (outcome : Outcome) → SoundThen thread (commands.Deliver end link nth) outcome
  sound_deliver thread end link nth outcome is =
      let octets = λ (x : EndId). octets_heard text (commands.Deliver x link nth) a in
      let step = step_of thread (commands.Deliver end link nth) outcome in
      record { ends = heard_ends end link octets outcome is; told = heard_told end link octets outcome is; aired = aired_longer step; got = λ e l. still_got step e l _ (heard_got end link octets outcome is e l) }

  sound_alter : (thread : ℕ) (end : EndId) (link : ℕ) (nth : Option ℕ) (number : ℕ) (outcome : Outcome) → SoundThen thread (commands.Alter end link nth number) outcome
  sound_alter thread end link nth number outcome is =
      let octets = λ (x : EndId). octets_heard text (commands.Alter x link nth number) a in
      let step = step_of thread (commands.Alter end link nth number) outcome in
      record { ends = heard_ends end link octets outcome is; told = heard_told end link octets outcome is; aired = aired_longer step; got = λ e l. still_got step e l _ (heard_got end link octets outcome is e l) }

  sound_forge : (thread : ℕ) (end : EndId) (link : ℕ) (lane : Lane) (key pn number : ℕ) (body : List ℕ) (outcome : Outcome) → SoundThen thread (commands.Forge end link lane key pn number body) outcome
  sound_forge thread end link lane key pn number body outcome is =
      let octets = λ (x : EndId). octets_heard text (commands.Forge x link lane key pn number body) a in
      let step = step_of thread (commands.Forge end link lane key pn number body) outcome in
      record { ends = heard_ends end link octets outcome is; told = heard_told end link octets outcome is; aired = aired_longer step; got = λ e l. still_got step e l _ (heard_got end link octets outcome is e l) }

  sound_inject : (thread : ℕ) (end : EndId) (link : ℕ) (injected : List ℕ) (outcome : Outcome) → SoundThen thread (commands.Inject end link injected) outcome
  sound_inject thread end link injected outcome is =
      let octets = λ (x : EndId). octets_heard text (commands.Inject x link injected) a in
      let step = step_of thread (commands.Inject end link injected) outcome in
      record { ends = heard_ends end link octets outcome is; told = heard_told end link octets outcome is; aired = aired_longer step; got = λ e l. still_got step e l _ (heard_got end link octets outcome is e l) }

  -- ---- acknowledgements

  module _ (thread : ℕ) (end : EndId) (lane : Lane) (outcome : Outcome) where
    same_ends : (P : EndId → EndState → Type 0) (acks : List Ack) (end e : EndId) → P e (end_of a e) → P e (end_of (with_acks end acks a) e)
    same_ends P acks Ap Ap h = h
    same_ends P acks Ap Sta h = h
    same_ends P acks Sta Ap h = h
    same_ends P acks Sta Sta h = h

    sound_ack_out : Sound text start (after text thread (commands.AckOut end lane) outcome a) (step_of thread (commands.AckOut end lane) outcome ∷ before)
    sound_ack_out = record {
      ends = λ e. same_ends (λ x s. IsEnd s) _ end e (sound.ends e);
      told = λ e. same_ends (λ x s. Still x s) _ end e (sound.told e);
      aired = sound.aired;
      got = sound.got;
    }

  module _ (thread : ℕ) (end : EndId) (nth : Option ℕ) (outcome : Outcome) where
    taken_ends : (x : EndId) (named : Option Ack) → IsEnd (after_taken named (end_of a x))
    taken_ends x None = sound.ends x
    taken_ends x (Some ack) = ack_kept windows ack (end_of a x) (sound.ends x)

    acked_told : (x : EndId) (ack : Ack) (o : Option Acked) → Still x (after_acked ack o (end_of a x))
    acked_told x ack None = sound.told x
    acked_told x ack (Some acked) = sending_tells text (start_of start x) x (end_of a x) (queues x) (booked x before) (airings start x before) (gots x) (key_of x) (setup_at x) (sound.ends x) (sound.told x) (lane_index ack.lane) acked.sending (end_of a x).hands

    taken_tells : (x : EndId) (named : Option Ack) → Still x (after_taken named (end_of a x))
    taken_tells x None = sound.told x
    taken_tells x (Some ack) = acked_told x ack (acked_by ack (end_of a x))

    sound_ack_in : Sound text start (after text thread (commands.AckIn end nth) outcome a) (step_of thread (commands.AckIn end nth) outcome ∷ before)
    sound_ack_in = record {
      ends = by_end (λ end e b s. IsEnd s) (λ x. after_taken (ack_named a x nth) (end_of a x)) (λ x. taken_ends x (ack_named a x nth)) (λ x y. sound.ends y) end;
      told = by_end (λ end e b s. Still e s) (λ x. after_taken (ack_named a x nth) (end_of a x)) (λ x. taken_tells x (ack_named a x nth)) (λ x y. sound.told y) end;
      aired = sound.aired;
      got = sound.got;
    }

  -- ---- requests to move a window

  module _ (thread : ℕ) (end : EndId) (lane : Lane) (to : ℕ) (outcome : Outcome) where
    -- its requests say nothing of an end
    bars_same : (air : AirState) (P : EndId → EndState → Type 0) (bars : List Bar) (end e : EndId) → P e (end_of air e) → P e (end_of (with_bars end bars air) e)
    bars_same air P bars Ap Ap h = h
    bars_same air P bars Ap Sta h = h
    bars_same air P bars Sta Ap h = h
    bars_same air P bars Sta Sta h = h

    abbrev barred : EndId → EndState
    barred x = after_bar_out lane to (end_of a x)

    given_told : (x : EndId) (given : Result Sending MoveRefusal) → Still x (after_given lane given (end_of a x))
    given_told x (Err why) = sound.told x
    given_told x (Ok sending) = sending_tells text (start_of start x) x (end_of a x) (queues x) (booked x before) (airings start x before) (gots x) (key_of x) (setup_at x) (sound.ends x) (sound.told x) (lane_index lane) sending (end_of a x).hands

    sound_bar_out : Sound text start (after text thread (commands.BarOut end lane to) outcome a) (step_of thread (commands.BarOut end lane to) outcome ∷ before)
    sound_bar_out = record {
      ends = λ e. bars_same (with_end end (barred end) a) (λ x s. IsEnd s) _ end e (by_end (λ end e b s. IsEnd s) barred (λ x. given_kept windows lane to (end_of a x) (sound.ends x)) (λ x y. sound.ends y) end e);
      told = λ e. bars_same (with_end end (barred end) a) (λ x s. Still x s) _ end e (by_end (λ end e b s. Still e s) barred (λ x. given_told x (given_by lane to (end_of a x))) (λ x y. sound.told y) end e);
      aired = sound.aired;
      got = sound.got;
    }

  module _ (thread : ℕ) (end : EndId) (nth : Option ℕ) (outcome : Outcome) where
    abbrev Asks : EndId → Type 0
    Asks x = outcome ≡ bar_answer (bar_named a x nth) (end_of a x)

    abbrev asked_end : EndId → EndState
    asked_end x = after_request (bar_named a x nth) (end_of a x)

    -- what a request leaves, with this answer
    record Moves (x : EndId) (s : EndState) (o : Outcome) : Type 0 where
      pub stays : IsEnd s
      pub told : Told x s (queues x) (booked x before) (airings start x before) (λ l. moved_to l o (gots x l)) (key_of x)
      pub got : (l : ℕ) → Got (IsItem start (peer_of x) l before) (moved_to l o (gots x l))

    got_asked_at : (x : EndId) (bar : Bar) (l : ℕ) (b : Bool) → Got (IsItem start (peer_of x) l before) (if b then passed_if (requested (gots x l).window bar.start) (gots x l) else gots x l)
    got_asked_at x bar l true = got_asked (IsItem start (peer_of x) l before) trans (gots x l) bar.start (sound.got x l)
    got_asked_at x bar l false = sound.got x l

    moved_so : (x : EndId) (bar : Bar) (moved : Option (Moved Arrival)) → moved_by bar (end_of a x) ≡ moved → Moves x (after_moved bar.lane moved (end_of a x)) (moved_answer bar moved (end_of a x))
    moved_so x bar None is = record { stays = sound.ends x; told = sound.told x; got = sound.got x }
    moved_so x bar (Some moved) is = record {
      stays = subst (λ (m : Option (Moved Arrival)). IsEnd (after_moved bar.lane m (end_of a x))) is (moved_kept bar (end_of a x) (sound.ends x));
      told = asked_tells text (start_of start x) x (end_of a x) (queues x) (booked x before) (airings start x before) (gots x) (key_of x) (setup_at x) (sound.ends x) (sound.told x) bar moved is;
      got = λ l. got_asked_at x bar l (at_place bar.lane l);
    }

    asked_so : (x : EndId) (named : Option Bar) → Moves x (after_request named (end_of a x)) (bar_answer named (end_of a x))
    asked_so x None = record { stays = sound.ends x; told = sound.told x; got = sound.got x }
    asked_so x (Some bar) = moved_so x bar (moved_by bar (end_of a x)) refl

    asked_all : (x : EndId) → Asks x → Moves x (asked_end x) outcome
    asked_all x own = subst (Moves x (asked_end x)) (sym own) (asked_so x (bar_named a x nth))

    sound_bar_in : SoundThen thread (commands.BarIn end nth) outcome
    sound_bar_in is = record {
      ends = λ e. by_end (λ end e b s. Asks end → IsEnd s) asked_end (λ x own. (asked_all x own).stays) (λ x y own. sound.ends y) end e is;
      told = λ e. by_end (λ end e b s. Asks end → Told e s (queues e) (booked e before) (airings start e before) (λ l. if b then moved_to l outcome (gots e l) else gots e l) (key_of e)) asked_end (λ x own. (asked_all x own).told) (λ x y own. sound.told y) end e is;
      aired = sound.aired;
      got = λ e. by_end (λ end e b s. Asks end → (l : ℕ) → Got (IsItem start (peer_of e) l before) (if b then moved_to l outcome (gots e l) else gots e l)) asked_end (λ x own. (asked_all x own).got) (λ x y own. sound.got y) end e is;
    }

  -- ---- what machines make

  module _ (thread : ℕ) (end : EndId) (step : Step) (f : Setup → Made) where
    abbrev made_end : EndId → EndState
    made_end x = with_made (f (end_of a x).setup) (end_of a x)

    abbrev made_terms : EndId → Terms
    made_terms x = terms_made (f (setup_at x)) (terms start x before).bodies

    made_ends : IsMade (end_of a end).setup (f (end_of a end).setup) → (e : EndId) → IsEnd (end_of (with_end end (made_end end) a) e)
    made_ends good e = by_end (λ end e b s. IsMade (end_of a end).setup (f (end_of a end).setup) → IsEnd s) made_end (λ x own. made_kept messages (end_of a x) (f (end_of a x).setup) (sound.ends x) own) (λ x y own. sound.ends y) end e good

    made_told : (e : EndId) → Agreed e (if same_end end e then made_terms e else terms start e before) (end_of (with_end end (made_end end) a) e) (gots e)
    made_told e =
        by_end (λ end e b s. Agreed e (if b then made_terms e else terms start e before) s (gots e)) made_end
        (λ x. made_tells text (start_of start x) x (end_of a x) (terms start x before).bodies (λ l. msdus x l before) (booked x before) (airings start x before) (gots x) (key_of x) (setup_at x) (sound.ends x) (sound.told x) f)
        (λ x y. sound.told y) end e

  module _ (thread : ℕ) (end : EndId) (outcome : Outcome) where
    sound_install : Sound text start (after text thread (commands.Install end) outcome a) (step_of thread (commands.Install end) outcome ∷ before)
    sound_install =
        let step = step_of thread (commands.Install end) outcome in
        record { ends = made_ends thread end step (installed outcome) (installed_made outcome (end_of a end).setup (sound.ends end).token_fits); told = made_told thread end step (installed outcome); aired = aired_longer step; got = got_longer step }

    sound_power : (link : ℕ) (on : Bool) → Sound text start (after text thread (commands.Power end link on) outcome a) (step_of thread (commands.Power end link on) outcome ∷ before)
    sound_power link on =
        let step = step_of thread (commands.Power end link on) outcome in
        record { ends = made_ends thread end step (switched link on) (switched_made link on (end_of a end).setup (sound.ends end).token_fits); told = made_told thread end step (switched link on); aired = aired_longer step; got = got_longer step }

    sound_map_ask : (entries : List MapEntry) → AreEntries entries → SoundThen thread (commands.MapAsk end entries) outcome
    sound_map_ask entries good is =
        let step = step_of thread (commands.MapAsk end entries) outcome in
        record { ends = made_ends thread end step (map_asked entries outcome) (asked_made entries outcome (end_of a end).setup good is (sound.ends end).token_fits); told = made_told thread end step (map_asked entries outcome); aired = aired_longer step; got = got_longer step }

    sound_map_teardown : Sound text start (after text thread (commands.MapTeardown end) outcome a) (step_of thread (commands.MapTeardown end) outcome ∷ before)
    sound_map_teardown =
        let step = step_of thread (commands.MapTeardown end) outcome in
        record { ends = made_ends thread end step (map_torn outcome) (torn_made outcome (end_of a end).setup (sound.ends end).token_fits); told = made_told thread end step (map_torn outcome); aired = aired_longer step; got = got_longer step }

    sound_give_up : (what : Machine) → Sound text start (after text thread (commands.GiveUp end what) outcome a) (step_of thread (commands.GiveUp end what) outcome ∷ before)
    sound_give_up what =
        let step = step_of thread (commands.GiveUp end what) outcome in
        record { ends = made_ends thread end step (given what outcome) (given_made what outcome (end_of a end).setup (sound.ends end).token_fits); told = made_told thread end step (given what outcome); aired = aired_longer step; got = got_longer step }

  -- ---- a turn of key

  module _ (thread : ℕ) (end : EndId) (outcome : Outcome) where
    abbrev Turns : EndId → Type 0
    Turns x = outcome ≡ turn_answer (end_of a x).numbers

    sound_turn : IsAnswer text thread (commands.Turn end) a outcome → Sound text start (after text thread (commands.Turn end) outcome a) (step_of thread (commands.Turn end) outcome ∷ before)
    sound_turn is = record {
      ends = by_end (λ end e b s. IsEnd s) (λ x. after_turn outcome (end_of a x)) (λ x. turn_kept (end_of a x) outcome (sound.ends x)) (λ x y. sound.ends y) end;
      told = λ e. by_end (λ end e b s. Turns end → Told e s (queues e) (booked e before) (airings start e before) (gots e) (if b then key_turned outcome (key_of e) else key_of e)) (λ x. after_turn outcome (end_of a x))
          (λ x own. turn_tells text (start_of start x) x (end_of a x) (queues x) (booked x before) (airings start x before) (gots x) (key_of x) (setup_at x) (sound.ends x) (sound.told x) outcome own) (λ x y own. sound.told y) end e is;
      aired = sound.aired;
      got = sound.got;
    }

  pub sound_then : (thread : ℕ) (command : Command) (outcome : Outcome) → Fits start command → InRanges command → IsAnswer text thread command a outcome → Sound text start (after text thread command outcome a) (step_of thread command outcome ∷ before)
  sound_then thread (commands.Queue end tid body) outcome fits ranges is = sound_queue thread end tid body outcome fits
  sound_then thread (commands.Reserve end lane) outcome fits ranges is = sound_reserve thread end lane outcome fits is
  sound_then thread (commands.Book end) outcome fits ranges is = sound_book thread end outcome is
  sound_then thread (commands.Put end link) outcome fits ranges is = sound_put thread end link outcome is
  sound_then thread (commands.Deliver end link nth) outcome fits ranges is = sound_deliver thread end link nth outcome is
  sound_then thread (commands.Again end link lane pos) outcome fits ranges is = sound_again thread end link lane pos outcome fits.1 is
  sound_then thread (commands.Alter end link nth number) outcome fits ranges is = sound_alter thread end link nth number outcome is
  sound_then thread (commands.Forge end link lane key pn number body) outcome fits ranges is = sound_forge thread end link lane key pn number body outcome is
  sound_then thread (commands.BarOut end lane to) outcome fits ranges is = sound_bar_out thread end lane to outcome
  sound_then thread (commands.BarIn end nth) outcome fits ranges is = sound_bar_in thread end nth outcome is
  sound_then thread (commands.AckOut end lane) outcome fits ranges is = sound_ack_out thread end lane outcome
  sound_then thread (commands.AckIn end nth) outcome fits ranges is = sound_ack_in thread end nth outcome
  sound_then thread (commands.Install end) outcome fits ranges is = sound_install thread end outcome
  sound_then thread (commands.Turn end) outcome fits ranges is = sound_turn thread end outcome is
  sound_then thread (commands.Inject end link octets) outcome fits ranges is = sound_inject thread end link octets outcome is
  sound_then thread (commands.Power end link on) outcome fits ranges is = sound_power thread end outcome link on
  sound_then thread (commands.MapAsk end entries) outcome fits ranges is = sound_map_ask thread end outcome entries ranges is
  sound_then thread (commands.MapTeardown end) outcome fits ranges is = sound_map_teardown thread end outcome
  sound_then thread (commands.GiveUp end what) outcome fits ranges is = sound_give_up thread end outcome what

pub legal_start : (text : Sealing) (start : Start) (steps : List Step) → Legal text start steps → IsStart start
legal_start text start [] legal = legal
legal_start text start (step ∷ before) legal = legal_start text start before legal.0

-- each legal history is sound
pub all_sound : NumberLaws → WindowLaws → MessageLaws → Trans → (text : Sealing) (start : Start) (steps : List Step) → Legal text start steps → Sound text start (state_of text start steps) steps
unfolding state_of
all_sound laws windows messages trans text start [] legal = sound_start text start legal
all_sound laws windows messages trans text start (step ∷ before) legal =
    sound_then laws windows messages trans text start (legal_start text start before legal.0) (state_of text start before) before (all_sound laws windows messages trans text start before legal.0) step.thread step.command step.outcome legal.1.fits legal.1.ranges legal.1.answer
