use Rattle.std.proofs.Common.{◌≡◌, ℕ, List, ap, subst, sym, ◌∙◌}
use Rattle.wl_elem.specs.Lanes.{lane_index}
use Rattle.wl_window.specs.Originating.{acked, sending_acked}
use Rattle.wl_history.specs.EndState.{EndState, LaneState, IsEnd, lane_at, acked_by, after_ack}
use Rattle.wl_end.specs.Parts.{with_lane_of}
use Rattle.wl_end.specs.contracts.end.End.{the_view}
use Rattle.wl_end.proofs.Keeping.{acked_lanes}
use Rattle.wl_end.proofs.end.End.ack_in.Goals as goal
use Rattle.wl_end.proofs.end.End.ack_in.Goals.{After-ack}

abbrev lanes_left : After-ack → List LaneState
lanes_left c = with_lane_of c.self.inside.lanes c.args.ack.now.lane c.ack.new.self

left : (c : After-ack) → (let t : EndState = record (the_view c.self.inside) { lanes = lanes_left c } in t) ≡ after_ack c.args.ack.now (the_view c.self.inside)
left c =
    let s = the_view c.self.inside in
    let ack = c.args.ack.now in
    let k = lane_index ack.lane in
    let taken = λ (l : LaneState) (stored : List ℕ). let m : LaneState = record l { sending = sending_acked l.sending (acked l.sending ack.start stored) } in m in
    ap (λ (l : LaneState). let t : EndState = record s { lanes = with_lane_of s.lanes ack.lane l } in t) (c.ack.ensures.after ∙ ap (λ (l : LaneState). taken l c.as_slice.result.now) c.at_mut.ensures.value)
    ∙ ap (λ (stored : List ℕ). let t : EndState = record s { lanes = with_lane_of s.lanes ack.lane (record (lane_at s k) { sending = sending_acked (lane_at s k).sending (acked (lane_at s k).sending ack.start stored) }) } in t) c.as_slice.ensures
    ∙ acked_lanes ack s (acked_by ack s)

kept : (c : After-ack) → IsEnd (record (the_view c.self.inside) { lanes = lanes_left c })
kept c = subst IsEnd (sym (left c)) (c.an_end_keeps.ensures.ack c.args.ack.now (the_view c.self.inside) c.self.invariant.sound)

pub invariant_of-self : goal.invariant_of-self
invariant_of-self c = record { sound = kept (goal.at.invariant_of-self c).After-ack; known = c.self.invariant.known }

pub returns-clause-sound : goal.returns-clause-sound
returns-clause-sound c = kept (goal.at.returns-clause-sound c).After-ack
