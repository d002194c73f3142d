-- What a granted reserve, a hearing, an acknowledgement and a request leave of an end.
use Rattle.std.proofs.Common.{◌≡◌, ◌≢◌, ◌<◌, ◌∙◌, ℕ, ◌+◌, ◌-◌, ◌++◌, ◌∷◌, [], length, get_or, set, Bool, true, false, eq-eqb, List, arith, OnOk, OnErr, Option, Some, None, Result, Ok, Err, refl, sym, ap, subst}
use Rattle.std.specs.Prelude.{◌==◌, nat_le, option_map, IfSome, if◌then◌else◌}
use Rattle.std.proofs.lemmas.Bool.{both_ways}
use Rattle.std.proofs.lemmas.List.{set-get_or, get_or-set_same}
use Rattle.wl_elem.specs.declared.lane.Lane.{Lane}
use Rattle.wl_elem.specs.Lanes.{lane_index}
use Rattle.wl_replay.specs.declared.replay.Pair.{Pair}
use Rattle.wl_replay.specs.Replay.{is_above, last_of}
use Rattle.wl_window.specs.Reordering.{Arrived, Moved, Old, Doubled, Stored, arrived}
use Rattle.wl_window.specs.declared.refusal.MoveRefusal.{MoveRefusal}
use Rattle.wl_window.specs.declared.refusal.OriginRefusal.{OriginRefusal}
use Rattle.wl_window.specs.declared.refusal.OriginRefusal.TheVariants.{NothingQueued, WindowFull}
use Rattle.wl_window.specs.Originating.{Sending, Acked, reserved, sending_after, granted_answer, sending_acked}
use Rattle.wl_history.specs.declared.ack.Ack.{Ack}
use Rattle.wl_history.specs.declared.ack.Bar.{Bar}
use Rattle.wl_history.specs.declared.setup.Setup.{Setup}
use Rattle.wl_history.specs.Ends.{receive_size}
use Rattle.wl_history.specs.Machines.{Made, acted}
use Rattle.wl_message.specs.declared.message.Message.{Message}
use Rattle.wl_message.specs.declared.message.Message.TheVariants as messages
use Rattle.wl_message.specs.Message.{message_octets, message_of}
use Rattle.wl_elem.specs.declared.lane.Lane.TheVariants as lanes
use Rattle.wl_end.specs.Reacting.{maps_after, reply_to, maps_told, reply_told}
use Rattle.wl_end.proofs.Releasing.{set_again}
use Rattle.wl_history.specs.declared.arrival.Arrival.{Arrival}
use Rattle.wl_number.specs.NumberObject.{NumberObject, turned}
use Rattle.wl_history.specs.declared.outcome.Outcome.{Outcome}
use Rattle.wl_history.specs.declared.outcome.Outcome.TheVariants as outcomes
use Rattle.wl_history.specs.EndState.{EndState, LaneState, IsEnd, lane_at, no_lane, management, with_message, with_made, with_moved, moved_by, after_told, after_arrived, after_hear, after_acked, after_given, after_moved, after_turn}
use Rattle.wl_end.specs.Parts.{with_lane_of}
use Rattle.wl_end.specs.declared.heard.Heard.TheVariants as heard
use Rattle.wl_end.specs.Listening.{heard_of, lane_moved, lane_heard, replied, pairs_moved, pairs_after, lane_passed, pairs_passed}

-- ---- reserving

abbrev pub one_more : Sending → Sending
one_more s = record { granted = s.granted + 1; base = s.base; marks = s.marks }

abbrev decided : Bool → Bool → Sending → Result Sending OriginRefusal
decided none full s = if none then Err NothingQueued else (if full then Err WindowFull else Ok (one_more s))

decided_ok : (none full : Bool) (s : Sending) → granted_answer (decided none full s) ≡ Ok tt → (sending_after s (decided none full s) ≡ one_more s) × (none ≡ false)
decided_ok true full s ok = absurd (cc ok)
decided_ok false true s ok = absurd (cc ok)
decided_ok false false s ok = (refl, refl)

-- what a granted reserve leaves, and that a body was there for it
pub granted_is : (s : Sending) (queued size : ℕ) → granted_answer (reserved s queued size) ≡ Ok tt → (sending_after s (reserved s queued size) ≡ one_more s) × (s.granted ≢ queued)
unfolding reserved
granted_is s queued size ok =
    let both = decided_ok (s.granted == queued) (nat_le size (s.granted - s.base)) s ok in
    (both.0, λ e. both_ways (s.granted == queued) both.1 (eq-eqb s.granted queued e))

-- ---- hearing

-- an end with these lanes and last pairs
abbrev pub heard_at : EndState → List LaneState → List (Option Pair) → EndState
heard_at s lanes last = record s { lanes = lanes; last = last }

-- what comes of a body that was heard: a lane, the last pairs and the setup
abbrev pub setup_heard : Lane → List ℕ → Arrived Arrival → Setup → Setup
setup_heard lane body (Stored moved) setup = record setup { maps = maps_told lane body setup.maps }
setup_heard lane body other setup = setup

abbrev pub heard_end : EndState → Lane → List ℕ → Arrived Arrival → EndState
heard_end s lane body come = record s {
  lanes = with_lane_of s.lanes lane (lane_heard (last_of s.last lane) (reply_told lane body s.setup.maps) come (lane_at s (lane_index lane)));
  last = pairs_after lane come s.last;
  setup = setup_heard lane body come s.setup;
}

-- what a machine makes of a message, in the words of the history
acted_is : (message : Message) (setup : Setup) → acted message setup ≡ (let made : Made = record { setup = record setup { maps = maps_after message setup.maps }; message = reply_to message setup.maps } in made)
acted_is (messages.MapAsk token changes) setup = refl
acted_is (messages.MapReply token status) setup = refl
acted_is messages.MapTeardown setup = refl

-- a reply that is queued after the window moved is queued with it
reply_later : (s : EndState) (lane : LaneState) (setup : Setup) (last : List (Option Pair)) (message : Option Message) → management < length s.lanes
    → (let t : EndState = record s { lanes = set s.lanes management (replied (option_map message_octets message) lane); last = last; setup = setup } in t)
    ≡ with_message message (record s { lanes = set s.lanes management lane; last = last; setup = setup })
reply_later s lane setup last None within = refl
reply_later s lane setup last (Some message) within =
    let own : get_or (set s.lanes management lane) management no_lane ≡ lane = get_or-set_same s.lanes management lane no_lane within in
    let more = λ (l : LaneState). let m : LaneState = record l { queue = l.queue ++ message_octets message ∷ [] } in m in
    let made = λ (lanes : List LaneState). let t : EndState = record s { lanes = lanes; last = last; setup = setup } in t in
    ap made (sym (ap (λ (l : LaneState). set (set s.lanes management lane) management (more l)) own ∙ set_again s.lanes management lane (more lane)))

told_is : (s : EndState) (lane : Lane) (body : List ℕ) (moved : Moved Arrival) → management < length s.lanes → heard_end s lane body (Stored moved) ≡ after_told lane body (with_moved lane moved s)
told_is s (lanes.Tid tid) body moved within = refl
told_is s lanes.Management body moved within =
    let message = message_of body in
    let setup : Setup = record s.setup { maps = maps_after message s.setup.maps } in
    reply_later s (lane_moved (last_of s.last lanes.Management) moved (lane_at s management)) setup (pairs_moved lanes.Management moved s.last) (reply_to message s.setup.maps) within
    ∙ ap (λ (made : Made). with_made made (with_moved lanes.Management moved s)) (sym (acted_is message s.setup))

-- what comes of a body is what hearing it leaves
pub hear_leaves : (s : EndState) (lane : Lane) (number : ℕ) (a : Arrival) → management < length s.lanes → is_above (last_of s.last lane) a.numbers.key a.numbers.pn ≡ true
    → heard_end s lane a.body (arrived (lane_at s (lane_index lane)).window number (receive_size s.setup (lane_index lane)) a) ≡ after_hear lane number (receive_size s.setup (lane_index lane)) a s
hear_leaves s lane number a within above = by_come (arrived (lane_at s (lane_index lane)).window number (receive_size s.setup (lane_index lane)) a) ∙ sym (ap (λ (b : Bool). if b then after_arrived lane a.body (arrived (lane_at s (lane_index lane)).window number (receive_size s.setup (lane_index lane)) a) s else s) above)
  where
    by_come : (come : Arrived Arrival) → heard_end s lane a.body come ≡ after_arrived lane a.body come s
    by_come Old = ap (λ (l : List LaneState). let t : EndState = record s { lanes = l } in t) (set-get_or s.lanes (lane_index lane) no_lane)
    by_come Doubled = ap (λ (l : List LaneState). let t : EndState = record s { lanes = l } in t) (set-get_or s.lanes (lane_index lane) no_lane)
    by_come (Stored moved) = told_is s lane a.body moved within

-- there is room for the reply, where there is one
pub room_if : (s : EndState) (lane : Lane) (body : List ℕ) → length (lane_at s management).queue < 4294959104 → IfSome (reply_told lane body s.setup.maps) (λ reply. length (lane_at s (lane_index lane)).queue < 4294967295)
room_if s (lanes.Tid tid) body room = tt
room_if s lanes.Management body room = room_for (reply_to (message_of body) s.setup.maps)
  where
    room_for : (message : Option Message) → IfSome (option_map message_octets message) (λ reply. length (lane_at s management).queue < 4294967295)
    room_for None = tt
    room_for (Some message) = omega (arith, room)

pub came_old : (last : Option Pair) (come : Arrived Arrival) → heard.Old ≡ heard_of last come → come ≡ Old
came_old last Old is = refl
came_old last Doubled is = absurd (cc is)
came_old last (Stored moved) is = absurd (cc is)

pub came_doubled : (last : Option Pair) (come : Arrived Arrival) → heard.Doubled ≡ heard_of last come → come ≡ Doubled
came_doubled last Old is = absurd (cc is)
came_doubled last Doubled is = refl
came_doubled last (Stored moved) is = absurd (cc is)

pub record CameStored (come : Arrived Arrival) : Type 0 where
  pub moved : Moved Arrival
  pub is : come ≡ Stored moved

pub came_stored : (last : Option Pair) (come : Arrived Arrival) (up : List ℕ) → heard.Stored up ≡ heard_of last come → CameStored come
came_stored last Old up is = absurd (cc is)
came_stored last Doubled up is = absurd (cc is)
came_stored last (Stored moved) up is = record { moved = moved; is = refl }

-- an end after a call that took something into a lane, or failed and left all as it was
took_or_not : {H E : Type 0} (s : EndState) (lane : Lane) (taken : LaneState) (pairs : List (Option Pair)) (r : Result H E) (new : LaneState) (last : List (Option Pair)) → IsEnd s → IsEnd (heard_at s (with_lane_of s.lanes lane taken) pairs)
    → OnOk r (new ≡ taken) → OnOk r (last ≡ pairs) → OnErr r (new ≡ lane_at s (lane_index lane)) → OnErr r (last ≡ s.last) → IsEnd (heard_at s (with_lane_of s.lanes lane new) last)
took_or_not s lane taken pairs (Ok h) new last is then_is p q p' q' =
    subst (λ (l : LaneState). IsEnd (heard_at s (with_lane_of s.lanes lane l) last)) (sym p) (subst (λ (o : List (Option Pair)). IsEnd (heard_at s (with_lane_of s.lanes lane taken) o)) (sym q) then_is)
took_or_not s lane taken pairs (Err e) new last is then_is p q p' q' =
    subst (λ (l : LaneState). IsEnd (heard_at s (with_lane_of s.lanes lane l) last)) (sym p')
    (subst (λ (l : List LaneState). IsEnd (heard_at s l last)) (sym (set-get_or s.lanes (lane_index lane) no_lane)) (subst (λ (o : List (Option Pair)). IsEnd (heard_at s s.lanes o)) (sym q') is))

-- ---- acknowledging

pub acked_lanes : (ack : Ack) (s : EndState) (o : Option Acked)
    → (let t : EndState = record s { lanes = with_lane_of s.lanes ack.lane (record (lane_at s (lane_index ack.lane)) { sending = sending_acked (lane_at s (lane_index ack.lane)).sending o }) } in t) ≡ after_acked ack o s
acked_lanes ack s None = ap (λ (l : List LaneState). let t : EndState = record s { lanes = l } in t) (set-get_or s.lanes (lane_index ack.lane) no_lane)
acked_lanes ack s (Some acked) = refl

-- ---- giving up, and requests

pub given_lanes : (lane : Lane) (s : EndState) (given : Result Sending MoveRefusal)
    → (let t : EndState = record s { lanes = with_lane_of s.lanes lane (record (lane_at s (lane_index lane)) { sending = sending_after (lane_at s (lane_index lane)).sending given }) } in t) ≡ after_given lane given s
given_lanes lane s (Ok sending) = refl
given_lanes lane s (Err why) = ap (λ (l : List LaneState). let t : EndState = record s { lanes = l } in t) (set-get_or s.lanes (lane_index lane) no_lane)

abbrev pub PassKeeps : Type 0
PassKeeps = (bar : Bar) (s : EndState) → IsEnd s → IsEnd (after_moved bar.lane (moved_by bar s) s)

passed_so : (s : EndState) (lane : Lane) (m : Option (Moved Arrival)) → IsEnd (after_moved lane m s) → IsEnd (heard_at s (with_lane_of s.lanes lane (lane_passed (last_of s.last lane) m (lane_at s (lane_index lane)))) (pairs_passed lane m s.last))
passed_so s lane None is = subst (λ (l : List LaneState). IsEnd (heard_at s l s.last)) (sym (set-get_or s.lanes (lane_index lane) no_lane)) is
passed_so s lane (Some moved) is = is

pub passed_kept : {H E : Type 0} → PassKeeps → (s : EndState) (bar : Bar) (r : Result H E) (new : LaneState) (last : List (Option Pair)) → IsEnd s
    → OnOk r (new ≡ lane_passed (last_of s.last bar.lane) (moved_by bar s) (lane_at s (lane_index bar.lane))) → OnOk r (last ≡ pairs_passed bar.lane (moved_by bar s) s.last) → OnErr r (new ≡ lane_at s (lane_index bar.lane)) → OnErr r (last ≡ s.last)
    → IsEnd (heard_at s (with_lane_of s.lanes bar.lane new) last)
passed_kept law s bar r new last is =
    took_or_not s bar.lane (lane_passed (last_of s.last bar.lane) (moved_by bar s) (lane_at s (lane_index bar.lane))) (pairs_passed bar.lane (moved_by bar s) s.last) r new last is (passed_so s bar.lane (moved_by bar s) (law bar s is))

-- ---- keys

pub turned_kept : {E : Type 0} → ((o : Outcome) (t : EndState) → IsEnd t → IsEnd (after_turn o t)) → (s : EndState) (r : Result ℕ E) (numbers : NumberObject) → IsEnd s → OnOk r (numbers ≡ turned s.numbers) → OnErr r (numbers ≡ s.numbers)
    → IsEnd (record s { numbers = numbers })
turned_kept law s (Ok key) numbers is ok err = subst (λ (o : NumberObject). IsEnd (record s { numbers = o })) (sym ok) (law (outcomes.Turned key) s is)
turned_kept law s (Err e) numbers is ok err = subst (λ (o : NumberObject). IsEnd (record s { numbers = o })) (sym err) is
