use Rattle.std.proofs.Common.{◌≡◌, List, ap, subst, sym, ◌∙◌}
use Rattle.wl_window.specs.Originating.{given_up, sending_after}
use Rattle.wl_history.specs.EndState.{EndState, LaneState, IsEnd, given_by, after_bar_out}
use Rattle.wl_end.specs.Parts.{with_lane_of}
use Rattle.wl_end.specs.contracts.end.End.{the_view}
use Rattle.wl_end.proofs.Keeping.{given_lanes}
use Rattle.wl_end.proofs.end.End.bar_out.Goals as goal
use Rattle.wl_end.proofs.end.End.bar_out.Goals.{After-advance}

abbrev lanes_left : After-advance → List LaneState
lanes_left c = with_lane_of c.self.inside.lanes c.args.lane c.advance.new.self

left : (c : After-advance) → (let t : EndState = record (the_view c.self.inside) { lanes = lanes_left c } in t) ≡ after_bar_out c.args.lane c.args.to (the_view c.self.inside)
left c =
    let s = the_view c.self.inside in
    let lane = c.args.lane in
    let given = λ (l : LaneState). let m : LaneState = record l { sending = sending_after l.sending (given_up l.sending c.args.to) } in m in
    ap (λ (l : LaneState). let t : EndState = record s { lanes = with_lane_of s.lanes lane l } in t) (c.advance.ensures.after ∙ ap given c.at_mut.ensures.value)
    ∙ given_lanes lane s (given_by lane c.args.to s)

kept : (c : After-advance) → IsEnd (record (the_view c.self.inside) { lanes = lanes_left c })
kept c = subst IsEnd (sym (left c)) (c.an_end_keeps.ensures.give_up c.args.lane c.args.to (the_view c.self.inside) c.self.invariant.sound)

pub invariant_of-self : goal.invariant_of-self
invariant_of-self c = record { sound = kept (goal.at.invariant_of-self c).After-advance; known = c.self.invariant.known }

pub returns-clause-sound : goal.returns-clause-sound
returns-clause-sound c = kept (goal.at.returns-clause-sound c).After-advance
