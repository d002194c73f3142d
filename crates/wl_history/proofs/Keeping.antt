-- What each call keeps of an end.
use Rattle.std.proofs.Common.{◌≡◌, ◌≢◌, ℕ, zero, suc, ◌+◌, ◌-◌, ◌<◌, ◌≤◌, Bool, true, false, eq-eqb, List, [], ◌∷◌, ◌++◌, length, get_or, set, Option, Some, None, Result, Ok, Err, refl, sym, ap, subst, ◌∙◌, arith, inl, inr, length-append}
use Rattle.std.specs.Prelude.{◌⊎◌, if◌then◌else◌, slice_set, ◌==◌, IfSome}
use Rattle.std.proofs.lemmas.Bool.{ne_eqb}
use Rattle.std.proofs.lemmas.List.{length-set}
use Rattle.wl_elem.specs.Element.{msdu_limit}
use Rattle.wl_elem.specs.declared.lane.Lane.{Lane}
use Rattle.wl_elem.specs.Lanes.{lane_index, lane_count, at_place, IsLane}
use Rattle.wl_number.specs.declared.numbers.Numbers.{Numbers}
use Rattle.wl_number.specs.NumberObject.{NumberObject, drawn, after_draw}
use Rattle.wl_number.specs.OrderRule.{with_booking}
use Rattle.wl_replay.specs.declared.replay.Pair.{Pair}
use Rattle.wl_replay.specs.Replay.{is_above, last_of}
use Rattle.wl_window.specs.Reordering.{Arrived, Moved, Old, Doubled, Stored, arrived}
use Rattle.wl_window.specs.Originating.{Sending, Acked, Keeps, with_booked}
use Rattle.wl_window.specs.declared.refusal.MoveRefusal.{MoveRefusal}
use Rattle.wl_history.specs.declared.ack.Ack.{Ack}
use Rattle.wl_history.specs.declared.arrival.Arrival.{Arrival}
use Rattle.wl_history.specs.declared.hand.Hand.{Hand}
use Rattle.wl_history.specs.declared.hand.Hand.TheVariants.{Empty, Reserve, Booking}
use Rattle.wl_history.specs.declared.outcome.Outcome.{Outcome}
use Rattle.wl_history.specs.declared.outcome.Outcome.TheVariants as outcomes
use Rattle.wl_history.specs.Hands.{hand_of, set_hand, reserves, bit}
use Rattle.wl_elem.specs.declared.lane.Lane.TheVariants as lanes
use Rattle.wl_window.specs.Reordering.{requested}
use Rattle.wl_message.specs.declared.message.Message.{Message}
use Rattle.wl_message.specs.Message.{message_octets, message_of, IsMessage, IsMade as IsBody}
use Rattle.wl_history.specs.declared.ack.Bar.{Bar}
use Rattle.wl_history.specs.declared.setup.Setup.{Setup}
use Rattle.wl_history.specs.Ends.{receive_size}
use Rattle.wl_message.specs.declared.message.Message.TheVariants as messages
use Rattle.wl_map.specs.Ends.{accepts}
use Rattle.wl_history.specs.Machines.{Made, IsMade, IsBodyOn, acted, map_ask}
use Rattle.wl_history.proofs.Idle.{PassedOn, PassedIf, passed_arrived, passed_requested}
use Rattle.wl_history.specs.Sender.{IsSender, IsGapless, Regranted}
use Rattle.wl_history.specs.Words.{body_at}
use Rattle.wl_history.specs.EndState.{EndState, LaneState, IsEnd, lane_at, frames_on, no_lane, with_lane, with_hand, with_frame, aired_at, let_up, after_queue, after_reserve, after_book, after_arrived, after_hear, after_acked, after_ack, after_given, after_bar_out, after_moved, after_turn, acked_by, given_by, moved_by, with_moved, with_message, with_made, after_told, management, IsManagement}
use Rattle.wl_history.proofs.Hands.{count_set}
use Rattle.wl_history.specs.Below.{NumberLaws, WindowLaws, MessageLaws}
use Rattle.wl_history.proofs.Sender.{lane_within, still_sender, turned_sender, emptied, reserving}
use Rattle.wl_history.proofs.Booking.{booking, booked_next}

-- ---- lanes, one of which changed

-- what held at a place, and holds of the new value where it stands there
pub any_place : {A : Type 0} (P : A → Type 0) (xs : List A) (k l : ℕ) (x d : A) → P (get_or xs l d) → (k ≡ l → P x) → P (get_or (set xs k x) l d)
any_place P [] k l x d old own = old
any_place P (y ∷ ys) zero zero x d old own = own refl
any_place P (y ∷ ys) zero (suc l) x d old own = old
any_place P (y ∷ ys) (suc k) zero x d old own = old
any_place P (y ∷ ys) (suc k) (suc l) x d old own = any_place P ys k l x d old (λ e. own (ap suc e))

-- what holds of the other places as they were, and of the new value, where one of the two is there
pub set_place : {A : Type 0} (P : A → Type 0) (xs : List A) (k l : ℕ) (x d : A) → (k < length xs) ⊎ (l < length xs) → (k ≢ l → P (get_or xs l d)) → (k ≡ l → P x) → P (get_or (set xs k x) l d)
set_place P [] k l x d (inl lt) other own = absurd (omega (arith, lt))
set_place P [] k l x d (inr lt) other own = absurd (omega (arith, lt))
set_place P (y ∷ ys) zero zero x d lt other own = own refl
set_place P (y ∷ ys) zero (suc l) x d lt other own = other (λ e. absurd (omega (arith, e)))
set_place P (y ∷ ys) (suc k) zero x d lt other own = other (λ e. absurd (omega (arith, e)))
set_place P (y ∷ ys) (suc k) (suc l) x d lt other own = set_place P ys k l x d (less lt) (λ ne. other (λ e. ne (omega (arith, e)))) (λ e. own (ap suc e))
  where
    less : {n i j : ℕ} → (suc i < suc n) ⊎ (suc j < suc n) → (i < n) ⊎ (j < n)
    less (inl lt) = inl (omega (arith, lt))
    less (inr lt) = inr (omega (arith, lt))

abbrev any_lane : (P : LaneState → Type 0) (lanes : List LaneState) (k l : ℕ) (new : LaneState) → P (get_or lanes l no_lane) → (k ≡ l → P new) → P (get_or (set lanes k new) l no_lane)
any_lane P lanes k l new = any_place P lanes k l new no_lane

abbrev set_lane : (P : LaneState → Type 0) (lanes : List LaneState) (k l : ℕ) (new : LaneState) → k < length lanes → (k ≢ l → P (get_or lanes l no_lane)) → (k ≡ l → P new) → P (get_or (set lanes k new) l no_lane)
set_lane P lanes k l new lt = set_place P lanes k l new no_lane (inl lt)

keeps_itself : (s : Sending) → Keeps s s
keeps_itself s = record { granted = refl; marks = λ pos. refl; counts = refl }

same_grants : (s : Sending) → Regranted s s
same_grants s = record { base = refl; marks = refl }

pub at_own_place : (lane : Lane) → at_place lane (lane_index lane) ≡ true
at_own_place lane = eq-eqb (lane_index lane) (lane_index lane) refl

-- ---- an end of which one lane changed, and perhaps pairs and frames

abbrev pub changed : EndState → ℕ → LaneState → List (Option Pair) → List (List (List ℕ)) → EndState
changed s k new last frames = record s { lanes = slice_set s.lanes k new; last = last; frames = frames }

abbrev IsShortLane : LaneState → Type 0
IsShortLane lane = (pos : ℕ) → length (body_at lane.queue pos) ≤ msdu_limit

-- a lane with the same queue and window, at whatever place
still_managed : (s : EndState) (k : ℕ) (new : LaneState) → IsEnd s → new.queue ≡ (lane_at s k).queue → new.window.slots ≡ (lane_at s k).window.slots → k ≡ management → IsManagement new
still_managed s k new is queue slots e =
    let own : IsManagement (lane_at s k) = subst (λ (j : ℕ). IsManagement (lane_at s j)) (sym e) is.managed in
    record {
      made = subst (λ (q : List (List ℕ)). (pos : ℕ) → pos < length q → IsBody (body_at q pos)) (sym queue) own.made;
      idle = slots ∙ own.idle;
    }

-- a lane keeps its queue or has a longer one, and what is booked
pub lane_stays : (s : EndState) (k : ℕ) (new : LaneState) (last : List (Option Pair)) (frames : List (List (List ℕ))) → IsEnd s → IsShortLane new → new.room ≡ (lane_at s k).room → length (lane_at s k).queue ≤ length new.queue → Keeps (lane_at s k).sending new.sending
    → length last ≡ lane_count → length frames ≡ 15 → (k ≡ management → IsManagement new) → IsEnd (changed s k new last frames)
lane_stays s k new last frames is short room longer keeps nine_pairs fifteen managed = record {
  nine = length-set s.lanes k new ∙ is.nine;
  nine_pairs = nine_pairs;
  fifteen = fifteen;
  short = λ l. any_lane IsShortLane s.lanes k l new (is.short l) (λ e. short);
  sender = still_sender (λ l. (lane_at s l).queue) (λ l. (lane_at (with_lane k new s) l).queue) s.hands s.numbers s.booked (λ l. (lane_at s l).sending) (λ l. (lane_at (with_lane k new s) l).sending)
      (λ l. any_lane (λ x. length (lane_at s l).queue ≤ length x.queue) s.lanes k l new (omega arith) (λ e. subst (λ (j : ℕ). length (lane_at s j).queue ≤ length new.queue) e longer))
      (λ l. any_lane (λ x. Keeps (lane_at s l).sending x.sending) s.lanes k l new (keeps_itself (lane_at s l).sending) (λ e. subst (λ (j : ℕ). Keeps (lane_at s j).sending new.sending) e keeps))
      is.sender;
  gapless = is.gapless;
  sized = is.sized;
  roomy = λ l. any_lane (λ x. receive_size s.setup l ≤ x.room) s.lanes k l new (is.roomy l) (λ e. subst (λ (j : ℕ). receive_size s.setup j ≤ new.room) e (subst (λ (n : ℕ). receive_size s.setup k ≤ n) (sym room) (is.roomy k)));
  managed = any_lane IsManagement s.lanes k management new is.managed managed;
  token_fits = is.token_fits;
}

short_more : (xs : List (List ℕ)) (body : List ℕ) (pos : ℕ) → length body ≤ msdu_limit → ((p : ℕ) → length (body_at xs p) ≤ msdu_limit) → length (body_at (xs ++ body ∷ []) pos) ≤ msdu_limit
short_more [] body zero short old = short
short_more [] body (suc pos) short old = omega arith
short_more (x ∷ xs) body zero short old = old 0
short_more (x ∷ xs) body (suc pos) short old = short_more xs body pos short (λ p. old (suc p))

made_more : (xs : List (List ℕ)) (body : List ℕ) (pos : ℕ) → IsBody body → ((p : ℕ) → p < length xs → IsBody (body_at xs p)) → pos < length (xs ++ body ∷ []) → IsBody (body_at (xs ++ body ∷ []) pos)
made_more [] body zero good old lt = good
made_more [] body (suc pos) good old lt = absurd (omega arith)
made_more (x ∷ xs) body zero good old lt = old 0 (omega arith)
made_more (x ∷ xs) body (suc pos) good old lt = made_more xs body pos good (λ p within. old (suc p) (omega arith)) (omega arith)

pub queue_kept : (s : EndState) (l : ℕ) (body : List ℕ) → IsEnd s → length body ≤ msdu_limit → (l ≡ management → IsBody body) → IsEnd (after_queue l body s)
queue_kept s l body is short good =
    let new : LaneState = record (lane_at s l) { queue = (lane_at s l).queue ++ body ∷ [] } in
    lane_stays s l new s.last s.frames is (λ pos. short_more (lane_at s l).queue body pos short (is.short l)) refl
    (omega (arith, length-append (lane_at s l).queue (body ∷ []))) (keeps_itself (lane_at s l).sending) is.nine_pairs is.fifteen
    (λ e. let own : IsManagement (lane_at s l) = subst (λ (j : ℕ). IsManagement (lane_at s j)) (sym e) is.managed in
    record { made = λ pos lt. made_more (lane_at s l).queue body pos (good e) own.made lt; idle = own.idle })

-- ---- a lane's sending changed, and a hand

abbrev sent_lane : EndState → ℕ → Sending → LaneState
sent_lane s k sending = record (lane_at s k) { sending = sending }

-- the same queues, with what the sender keeps besides
sent_end : (s : EndState) (k : ℕ) (sending : Sending) (hands : List Hand) (o : NumberObject) (booked : List (List Numbers)) → IsEnd s
    → IsGapless o booked → IsSender (λ l. (lane_at s l).queue) hands o booked (λ l. (lane_at (with_lane k (sent_lane s k sending) s) l).sending)
    → IsEnd (record (with_lane k (sent_lane s k sending) s) { hands = hands; numbers = o; booked = booked })
sent_end s k sending hands o booked is none_out sender =
    let after = with_lane k (sent_lane s k sending) s in
    record {
      nine = length-set s.lanes k (sent_lane s k sending) ∙ is.nine;
      nine_pairs = is.nine_pairs;
      fifteen = is.fifteen;
      short = λ l. any_lane IsShortLane s.lanes k l (sent_lane s k sending) (is.short l) (λ e. is.short k);
      sender = still_sender (λ l. (lane_at s l).queue) (λ l. (lane_at after l).queue) hands o booked (λ l. (lane_at after l).sending) (λ l. (lane_at after l).sending)
          (λ l. any_lane (λ x. length (lane_at s l).queue ≤ length x.queue) s.lanes k l (sent_lane s k sending) (omega arith) (λ e. subst (λ (j : ℕ). length (lane_at s j).queue ≤ length (lane_at s k).queue) e (omega arith)))
          (λ l. keeps_itself (lane_at after l).sending) sender;
      gapless = none_out;
      sized = is.sized;
      roomy = λ l. any_lane (λ x. receive_size s.setup l ≤ x.room) s.lanes k l (sent_lane s k sending) (is.roomy l) (λ e. subst (λ (j : ℕ). receive_size s.setup j ≤ (lane_at s k).room) e (is.roomy k));
      managed = any_lane IsManagement s.lanes k management (sent_lane s k sending) is.managed (still_managed s k (sent_lane s k sending) is refl refl);
      token_fits = is.token_fits;
    }

-- the same bookings on each lane, with other grants on one
regranted_lanes : (s : EndState) (k granted : ℕ) (l : ℕ) → Regranted (lane_at s l).sending (lane_at (with_lane k (sent_lane s k (record (lane_at s k).sending { granted = granted })) s) l).sending
regranted_lanes s k granted l =
    any_lane (λ x. Regranted (lane_at s l).sending x.sending) s.lanes k l _ (same_grants (lane_at s l).sending)
    (λ e. subst (λ (j : ℕ). Regranted (lane_at s j).sending (record (lane_at s k).sending { granted = granted })) e (record { base = refl; marks = refl }))

pub reserve_kept : (s : EndState) (thread : ℕ) (lane : Lane) → IsEnd s → IsLane lane → hand_of s.hands thread ≡ Empty
    → (lane_at s (lane_index lane)).sending.granted ≢ length (lane_at s (lane_index lane)).queue → IsEnd (after_reserve thread lane outcomes.Reserved s)
reserve_kept s thread lane is lane_is empty more =
    let k = lane_index lane in
    let sending : Sending = record (lane_at s k).sending { granted = (lane_at s k).sending.granted + 1 } in
    let within : k < length s.lanes = omega (arith, is.nine, lane_within lane lane_is) in
    let room : (lane_at s k).sending.granted + 1 ≤ length (lane_at s k).queue = omega (arith, is.sender.within k, more) in
    let after = with_lane k (sent_lane s k sending) s in
    let granted : (l : ℕ) → (lane_at after l).sending.granted ≡ (lane_at s l).sending.granted + bit (at_place lane l) = λ l.
    set_lane (λ x. x.sending.granted ≡ (lane_at s l).sending.granted + bit (at_place lane l)) s.lanes k l (sent_lane s k sending) within
    (λ ne. let none : bit (at_place lane l) ≡ 0 = ap bit (ne_eqb k l ne) in omega (arith, none))
    (λ e. subst (λ (j : ℕ). (lane_at s k).sending.granted + 1 ≡ (lane_at s j).sending.granted + bit (at_place lane j)) e (let one : bit (at_place lane k) ≡ 1 = ap bit (at_own_place lane) in omega (arith, one))) in
    sent_end s k sending (set_hand thread (Reserve lane) s.hands) s.numbers s.booked is is.gapless
    (reserving thread lane (λ l. (lane_at s l).queue) s.hands s.numbers s.booked (λ l. (lane_at s l).sending) (λ l. (lane_at after l).sending) lane_is empty
    (regranted_lanes s k ((lane_at s k).sending.granted + 1)) granted
    (λ l. any_lane (λ x. x.sending.granted ≤ length (lane_at s l).queue) s.lanes k l (sent_lane s k sending) (is.sender.within l) (λ e. subst (λ (j : ℕ). (lane_at s k).sending.granted + 1 ≤ length (lane_at s j).queue) e room))
    is.sender)

-- a reserve in a hand counts among those granted
pub reserve_counts : (s : EndState) (thread : ℕ) (lane : Lane) (l : ℕ) → IsEnd s → hand_of s.hands thread ≡ Reserve lane → bit (at_place lane l) ≤ (lane_at s l).sending.granted
reserve_counts s thread lane l is held = omega (arith, is.sender.counted l, count_set l thread Empty s.hands, ap (λ (h : Hand). bit (reserves l h)) held)

pub given_back : (s : EndState) (thread : ℕ) (lane : Lane) → IsEnd s → hand_of s.hands thread ≡ Reserve lane → IsEnd (after_book thread (outcomes.Spent lane) s)
given_back s thread lane is held =
    let k = lane_index lane in
    let sending : Sending = record (lane_at s k).sending { granted = (lane_at s k).sending.granted - 1 } in
    let within : k < length s.lanes = omega (arith, is.nine, lane_within lane (is.sender.of_lanes thread lane held)) in
    let after = with_lane k (sent_lane s k sending) s in
    let some : 1 ≤ (lane_at s k).sending.granted = omega (arith, reserve_counts s thread lane k is held, ap bit (at_own_place lane)) in
    let granted : (l : ℕ) → (lane_at after l).sending.granted + bit (reserves l (hand_of s.hands thread)) ≡ (lane_at s l).sending.granted = λ l.
    set_lane (λ x. x.sending.granted + bit (reserves l (hand_of s.hands thread)) ≡ (lane_at s l).sending.granted) s.lanes k l (sent_lane s k sending) within
    (λ ne. let none : bit (reserves l (hand_of s.hands thread)) ≡ 0 = ap (λ (h : Hand). bit (reserves l h)) held ∙ ap bit (ne_eqb k l ne) in omega (arith, none))
    (λ e. subst (λ (j : ℕ). (lane_at s k).sending.granted - 1 + bit (reserves j (hand_of s.hands thread)) ≡ (lane_at s j).sending.granted) e
    (let one : bit (reserves k (hand_of s.hands thread)) ≡ 1 = ap (λ (h : Hand). bit (reserves k h)) held ∙ ap bit (at_own_place lane) in omega (arith, one, some))) in
    sent_end s k sending (set_hand thread Empty s.hands) s.numbers s.booked is is.gapless
    (emptied thread (λ l. (lane_at s l).queue) s.hands s.numbers s.booked (λ l. (lane_at s l).sending) (λ l. (lane_at after l).sending) (regranted_lanes s k ((lane_at s k).sending.granted - 1)) granted is.sender)

pub booked_so : NumberLaws → WindowLaws → (s : EndState) (thread : ℕ) (lane : Lane) → IsEnd s → hand_of s.hands thread ≡ Reserve lane → IsEnd (after_book thread (outcomes.Booked lane (drawn s.numbers lane)) s)
booked_so laws windows s thread lane is held =
    let k = lane_index lane in
    let n = drawn s.numbers lane in
    let sending = with_booked (lane_at s k).sending n.pos in
    let within : k < length s.lanes = omega (arith, is.nine, lane_within lane (is.sender.of_lanes thread lane held)) in
    let after = with_lane k (sent_lane s k sending) s in
    let later : (l : ℕ) → (lane_at after l).sending ≡ (if at_place lane l then with_booked (lane_at s l).sending n.pos else (lane_at s l).sending) = λ l.
    set_lane (λ x. x.sending ≡ (if at_place lane l then with_booked (lane_at s l).sending n.pos else (lane_at s l).sending)) s.lanes k l (sent_lane s k sending) within
    (λ ne. sym (ap (λ (b : Bool). if b then with_booked (lane_at s l).sending n.pos else (lane_at s l).sending) (ne_eqb k l ne)))
    (λ e. subst (λ (j : ℕ). sending ≡ (if at_place lane j then with_booked (lane_at s j).sending n.pos else (lane_at s j).sending)) e
    (sym (ap (λ (b : Bool). if b then with_booked (lane_at s k).sending n.pos else (lane_at s k).sending) (at_own_place lane)))) in
    sent_end s k sending (set_hand thread (Booking lane n) s.hands) (after_draw s.numbers lane) (with_booking s.booked lane n) is
    (booked_next laws windows thread lane (λ l. (lane_at s l).queue) s.hands s.numbers s.booked (λ l. (lane_at s l).sending) (λ l. (lane_at after l).sending) held is.gapless is.sender)
    (booking laws windows thread lane (λ l. (lane_at s l).queue) s.hands s.numbers s.booked (λ l. (lane_at s l).sending) (λ l. (lane_at after l).sending) held later is.gapless is.sender)

-- ---- a booking leaves a hand

pub puts_down : (s : EndState) (thread : ℕ) (lane : Lane) (n : Numbers) → IsEnd s → hand_of s.hands thread ≡ Booking lane n → IsEnd (with_hand thread Empty s)
puts_down s thread lane n is held =
    let none : (l : ℕ) → bit (reserves l (hand_of s.hands thread)) ≡ 0 = λ l. ap (λ (h : Hand). bit (reserves l h)) held in
    record {
      nine = is.nine;
      nine_pairs = is.nine_pairs;
      fifteen = is.fifteen;
      short = is.short;
      sender = emptied thread (λ l. (lane_at s l).queue) s.hands s.numbers s.booked (λ l. (lane_at s l).sending) (λ l. (lane_at s l).sending)
          (λ l. same_grants (lane_at s l).sending) (λ l. omega (arith, none l)) is.sender;
      gapless = is.gapless;
      sized = is.sized;
      roomy = is.roomy;
      managed = is.managed;
      token_fits = is.token_fits;
    }

-- ---- a frame is aired

pub framed_kept : (s : EndState) (lane : Lane) (n : Numbers) (link : ℕ) (octets : List ℕ) → IsEnd s → IsEnd (with_frame link octets lane n s)
framed_kept s lane n link octets is =
    let k = lane_index lane in
    let new : LaneState = record (lane_at s k) { aired = aired_at n.pos (lane_at s k).aired } in
    lane_stays s k new s.last (slice_set s.frames link (frames_on s link ++ octets ∷ [])) is (is.short k) refl (omega arith) (keeps_itself (lane_at s k).sending) is.nine_pairs
    (length-set s.frames link (frames_on s link ++ octets ∷ []) ∙ is.fifteen) (still_managed s k new is refl refl)

pub aired_so : (s : EndState) (thread : ℕ) (lane : Lane) (n : Numbers) (link : ℕ) (octets : List ℕ) → IsEnd s → hand_of s.hands thread ≡ Booking lane n → IsEnd (with_hand thread Empty (with_frame link octets lane n s))
aired_so s thread lane n link octets is held = puts_down (with_frame link octets lane n s) thread lane n (framed_kept s lane n link octets is) held

-- ---- what machines make

-- another setup, with windows of the same size
setup_kept : (s : EndState) (setup : Setup) → IsEnd s → setup.window ≡ s.setup.window → setup.token < 256 → IsEnd (record s { setup = setup })
setup_kept s setup is window token =
    let sizes : (l : ℕ) → receive_size setup l ≡ receive_size s.setup l = λ l. ap (λ (w : ℕ). if l == management then 1 else w) window in
    record {
      nine = is.nine;
      nine_pairs = is.nine_pairs;
      fifteen = is.fifteen;
      short = is.short;
      sender = is.sender;
      gapless = is.gapless;
      sized = record { some_window = omega (arith, window, is.sized.some_window); window_limit = omega (arith, window, is.sized.window_limit) };
      roomy = λ l. omega (arith, sizes l, is.roomy l);
      managed = is.managed;
      token_fits = token;
    }

pub message_kept : MessageLaws → (message : Option Message) (s : EndState) → IsEnd s → IfSome message IsMessage → IsEnd (with_message message s)
message_kept laws None s is good = is
message_kept laws (Some message) s is good = queue_kept s management (message_octets message) is (omega (arith, laws.short message good)) (λ e. (message, good, refl))

pub made_kept : MessageLaws → (s : EndState) (made : Made) → IsEnd s → IsMade s.setup made → IsEnd (with_made made s)
made_kept laws s made is good = message_kept laws made.message (record s { setup = made.setup }) (setup_kept s made.setup is good.window good.token) good.good

pub turn_kept : (s : EndState) (o : Outcome) → IsEnd s → IsEnd (after_turn o s)
turn_kept s (outcomes.Turned key) is = record {
  nine = is.nine;
  nine_pairs = is.nine_pairs;
  fifteen = is.fifteen;
  short = is.short;
  sender = turned_sender (λ l. (lane_at s l).queue) s.hands s.numbers s.booked (λ l. (lane_at s l).sending) is.sender;
  gapless = record { next = is.gapless.next };
  sized = is.sized;
  roomy = is.roomy;
  managed = is.managed;
  token_fits = is.token_fits;
}
turn_kept s other is = is

-- ---- hearing and acknowledging

-- a lane whose window moved
moved_lane : (s : EndState) (lane : Lane) (moved : Moved Arrival) → IsEnd s → (lane_index lane ≡ management → moved.window.slots ≡ []) → IsEnd (with_moved lane moved s)
moved_lane s lane moved is idle =
    let k = lane_index lane in
    let new : LaneState = record (lane_at s k) { window = moved.window; released = (lane_at s k).released ++ (let_up (last_of s.last lane) moved.up).positions } in
    lane_stays s k new (slice_set s.last k (let_up (last_of s.last lane) moved.up).last) s.frames is (is.short k) refl (omega arith) (keeps_itself (lane_at s k).sending)
    (length-set s.last k (let_up (last_of s.last lane) moved.up).last ∙ is.nine_pairs) is.fifteen
    (λ e. let own : IsManagement (lane_at s k) = subst (λ (j : ℕ). IsManagement (lane_at s j)) (sym e) is.managed in record { made = own.made; idle = idle e })

-- a message of the peer that is taken makes what has octets
pub acted_made : (message : Message) (setup : Setup) → IsMessage message → setup.token < 256 → IsMade setup (acted message setup)
acted_made (messages.MapAsk token changes) setup good lt = record { window = refl; token = lt; good = (good.0, status_short (accepts setup.maps (map_ask token changes))) }
  where
    status_short : (b : Bool) → (if b then 0 else 133) < 65536
    status_short true = omega arith
    status_short false = omega arith
acted_made (messages.MapReply token status) setup good lt = record { window = refl; token = lt; good = tt }
acted_made messages.MapTeardown setup good lt = record { window = refl; token = lt; good = tt }

pub told_kept : MessageLaws → (s : EndState) (lane : Lane) (body : List ℕ) → IsEnd s → IsBodyOn lane body → IsEnd (after_told lane body s)
told_kept laws s (lanes.Tid tid) body is good = is
told_kept laws s lanes.Management body is (message, good, octets) =
    let read : message_of body ≡ message = ap message_of octets ∙ laws.read message good in
    made_kept laws s (acted (message_of body) s.setup) is (acted_made (message_of body) s.setup (subst IsMessage (sym read) good) is.token_fits)

arrived_kept : MessageLaws → (s : EndState) (lane : Lane) (body : List ℕ) (a : Arrival) (come : Arrived Arrival) → IsEnd s → IsBodyOn lane body → (lane_index lane ≡ management → PassedOn a come) → IsEnd (after_arrived lane body come s)
arrived_kept laws s lane body a Old is good idle = is
arrived_kept laws s lane body a Doubled is good idle = is
arrived_kept laws s lane body a (Stored moved) is good idle = told_kept laws (with_moved lane moved s) lane body (moved_lane s lane moved is (λ e. (idle e).slots)) good

passed_management : (s : EndState) (k number : ℕ) (a : Arrival) → IsEnd s → k ≡ management → PassedOn a (arrived (lane_at s k).window number (receive_size s.setup k) a)
passed_management s k number a is e = subst (λ (j : ℕ). PassedOn a (arrived (lane_at s j).window number (receive_size s.setup j) a)) (sym e) (passed_arrived (lane_at s management).window number a is.managed.idle)

-- what is stored leaves the lane so
pub stored_kept : (s : EndState) (lane : Lane) (number : ℕ) (a : Arrival) (moved : Moved Arrival) → IsEnd s → arrived (lane_at s (lane_index lane)).window number (receive_size s.setup (lane_index lane)) a ≡ Stored moved → IsEnd (with_moved lane moved s)
stored_kept s lane number a moved is come = moved_lane s lane moved is (λ e. (subst (PassedOn a) come (passed_management s (lane_index lane) number a is e)).slots)

either_end : (b : Bool) (s t : EndState) → IsEnd s → IsEnd t → IsEnd (if b then t else s)
either_end true s t p q = q
either_end false s t p q = p

pub hear_kept : MessageLaws → (s : EndState) (lane : Lane) (number : ℕ) (a : Arrival) → IsEnd s → IsBodyOn lane a.body → IsEnd (after_hear lane number (receive_size s.setup (lane_index lane)) a s)
hear_kept laws s lane number a is good =
    let k = lane_index lane in
    either_end (is_above (last_of s.last lane) a.numbers.key a.numbers.pn) s _ is
    (arrived_kept laws s lane a.body a (arrived (lane_at s k).window number (receive_size s.setup k) a) is good
    (passed_management s k number a is))

acked_kept : WindowLaws → (ack : Ack) (s : EndState) (a : Option Acked) → acked_by ack s ≡ a → IsEnd s → IsEnd (after_acked ack a s)
acked_kept windows ack s None e is = is
acked_kept windows ack s (Some a) e is =
    let k = lane_index ack.lane in
    lane_stays s k (sent_lane s k a.sending) s.last s.frames is (is.short k) refl (omega arith) (windows.acking (lane_at s k).sending ack.start ack.stored a e) is.nine_pairs is.fifteen
    (still_managed s k (sent_lane s k a.sending) is refl refl)

pub ack_kept : WindowLaws → (ack : Ack) (s : EndState) → IsEnd s → IsEnd (after_ack ack s)
ack_kept windows ack s is = acked_kept windows ack s (acked_by ack s) refl is

-- ---- giving up and moving a window

given_so : WindowLaws → (lane : Lane) (to : ℕ) (s : EndState) (given : Result Sending MoveRefusal) → given_by lane to s ≡ given → IsEnd s → IsEnd (after_given lane given s)
given_so windows lane to s (Err why) e is = is
given_so windows lane to s (Ok sending) e is =
    let k = lane_index lane in
    lane_stays s k (sent_lane s k sending) s.last s.frames is (is.short k) refl (omega arith) (windows.giving_up (lane_at s k).sending sending to e) is.nine_pairs is.fifteen
    (still_managed s k (sent_lane s k sending) is refl refl)

pub given_kept : WindowLaws → (lane : Lane) (to : ℕ) (s : EndState) → IsEnd s → IsEnd (after_bar_out lane to s)
given_kept windows lane to s is = given_so windows lane to s (given_by lane to s) refl is

moved_so : (lane : Lane) (moved : Option (Moved Arrival)) (s : EndState) → IsEnd s → (lane_index lane ≡ management → PassedIf moved) → IsEnd (after_moved lane moved s)
moved_so lane None s is idle = is
moved_so lane (Some moved) s is idle = moved_lane s lane moved is (λ e. (idle e).slots)

pub moved_kept : (bar : Bar) (s : EndState) → IsEnd s → IsEnd (after_moved bar.lane (moved_by bar s) s)
moved_kept bar s is =
    moved_so bar.lane (moved_by bar s) s is
    (λ e. subst (λ (j : ℕ). PassedIf (requested (lane_at s j).window bar.start)) (sym e) (passed_requested (lane_at s management).window bar.start is.managed.idle))
