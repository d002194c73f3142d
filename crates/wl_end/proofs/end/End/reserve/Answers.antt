use Rattle.std.proofs.Common.{◌≡◌, ◌≢◌, ℕ, List, length, subst, sym, ◌∙◌, ap}
use Rattle.wl_elem.specs.Lanes.{lane_index}
use Rattle.wl_window.specs.Originating.{Sending, sending_after, reserved}
use Rattle.wl_history.specs.declared.hand.Hand.{Hand}
use Rattle.wl_history.specs.declared.hand.Hand.TheVariants.{Empty, Reserve}
use Rattle.wl_history.specs.Hands.{hand_of, set_hand}
use Rattle.wl_history.specs.EndState.{EndState, LaneState, IsEnd, lane_at, with_hand, with_sending, with_lane}
use Rattle.wl_end.specs.Parts.{with_lane_of}
use Rattle.wl_end.specs.contracts.end.End.{the_view}
use Rattle.wl_end.proofs.Keeping.{granted_is, one_more}
use Rattle.wl_end.proofs.end.End.reserve.Goals as goal
use Rattle.wl_end.proofs.end.End.reserve.Goals.{After-set}

-- the end that the reserve leaves
abbrev reserving : After-set → EndState → EndState
reserving c s = with_hand c.args.thread (Reserve c.args.lane) (with_sending (lane_index c.args.lane) (one_more (lane_at s (lane_index c.args.lane)).sending) s)

abbrev Granted : ℕ → LaneState → Type 0
Granted size lane = (sending_after lane.sending (reserved lane.sending (length lane.queue) size) ≡ one_more lane.sending) × (lane.sending.granted ≢ length lane.queue)

granted : (c : After-set) → Granted c.send_size-size.result c.at_mut.result.now
granted c = granted_is c.at_mut.result.now.sending (length c.at_mut.result.now.queue) c.send_size-size.result (sym c.in-Ok.ensures.answer)

abbrev lanes_left : After-set → List LaneState
lanes_left c = with_lane_of c.self.inside.lanes c.args.lane c.reserve.new.self

left : (c : After-set) → the_view (record c.self.inside { lanes = lanes_left c; hands = c.set.new.self }) ≡ reserving c (the_view c.self.inside)
left c =
    let s = the_view c.self.inside in
    let k = lane_index c.args.lane in
    let sent = λ (l : LaneState) (x : Sending). let m : LaneState = record l { sending = x } in m in
    let own = c.in-Ok.ensures.after ∙ ap (sent c.at_mut.result.now) (granted c).0 ∙ ap (λ (l : LaneState). sent l (one_more l.sending)) c.at_mut.ensures.value in
    let lanes = ap (with_lane_of s.lanes c.args.lane) own in
    let hands = c.set.ensures.hands ∙ ap (set_hand c.args.thread (Reserve c.args.lane)) c.in_ok-room_for.ensures.hands in
    let made = λ (l : List LaneState) (h : List Hand). let t : EndState = record s { lanes = l; hands = h } in t in
    ap (λ (l : List LaneState). made l c.set.new.self.hands) lanes ∙ ap (made (with_lane k (record (lane_at s k) { sending = one_more (lane_at s k).sending }) s).lanes) hands

kept : (c : After-set) → IsEnd (the_view (record c.self.inside { lanes = lanes_left c; hands = c.set.new.self }))
kept c =
    let s = the_view c.self.inside in
    let empty : hand_of s.hands c.args.thread ≡ Empty = sym c.get.ensures ∙ c.in-Empty.is in
    subst IsEnd (sym (left c))
    (c.an_end_keeps.ensures.reserve s c.args.thread c.args.lane c.self.invariant.sound c.test_lane.ensures.data empty (subst (Granted c.send_size-size.result) c.at_mut.ensures.value (granted c)).1)

pub invariant_of-self-2 : goal.invariant_of-self-2
invariant_of-self-2 c = let all = (goal.at.invariant_of-self-2 c).After-set in record { sound = kept all; known = c.self.invariant.known }

pub returns-clause-after : goal.returns-clause-after
returns-clause-after c = let all = (goal.at.returns-clause-after c).After-set in left all ∙ ap (reserving all) c.self.view_is

pub returns-clause-sound : goal.returns-clause-sound
returns-clause-sound c = kept (goal.at.returns-clause-sound c).After-set
