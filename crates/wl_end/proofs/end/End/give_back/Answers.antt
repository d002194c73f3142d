use Rattle.std.proofs.Common.{◌≡◌, ◌<◌, ◌-◌, List, subst, sym, ap, ◌∙◌}
use Rattle.wl_history.specs.declared.hand.Hand.{Hand}
use Rattle.wl_history.specs.declared.hand.Hand.TheVariants.{Reserve}
use Rattle.wl_history.specs.declared.outcome.Outcome.TheVariants as outcomes
use Rattle.wl_history.specs.Hands.{hand_of}
use Rattle.wl_history.specs.EndState.{EndState, LaneState, IsEnd, after_book}
use Rattle.wl_window.specs.Originating.{booked_count}
use Rattle.wl_end.specs.Parts.{with_lane_of}
use Rattle.wl_end.specs.contracts.end.End.{the_view}
use Rattle.wl_end.proofs.Booking.{some_to_book}
use Rattle.wl_end.proofs.end.End.give_back.Goals as goal
use Rattle.wl_end.proofs.end.End.give_back.Goals.{After-replace}

pub give_back-requires : goal.give_back-requires
give_back-requires c =
    let held : hand_of (the_view c.self.inside).hands c.args.thread ≡ Reserve c.args.lane.now = ap (λ (s : EndState). hand_of s.hands c.args.thread) c.self.view_is ∙ c.requires in
    subst (λ (l : LaneState). booked_count l.sending < l.sending.granted) (sym c.at_mut.ensures.value) (some_to_book (the_view c.self.inside) c.args.thread c.args.lane.now c.self.invariant.sound held)

abbrev lanes_left : After-replace → List LaneState
lanes_left c = with_lane_of c.self.inside.lanes c.args.lane.now c.give_back.new.self

left : (c : After-replace) → the_view (record c.self.inside { lanes = lanes_left c; hands = c.replace.new.self }) ≡ after_book c.args.thread (outcomes.Spent c.args.lane.now) (the_view c.self.inside)
left c =
    let s = the_view c.self.inside in
    let t = after_book c.args.thread (outcomes.Spent c.args.lane.now) s in
    let made = λ (l : List LaneState) (h : List Hand). let e : EndState = record s { lanes = l; hands = h } in e in
    let lane = c.give_back.ensures ∙ ap (λ (l : LaneState). let m : LaneState = record l { sending = record l.sending { granted = l.sending.granted - 1 } } in m) c.at_mut.ensures.value in
    ap (λ (l : LaneState). made (with_lane_of s.lanes c.args.lane.now l) c.replace.new.self.hands) lane ∙ ap (made t.lanes) c.replace.ensures.hands

kept : (c : After-replace) → IsEnd (the_view (record c.self.inside { lanes = lanes_left c; hands = c.replace.new.self }))
kept c =
    let s = the_view c.self.inside in
    let held : hand_of s.hands c.args.thread ≡ Reserve c.args.lane.now = ap (λ (e : EndState). hand_of e.hands c.args.thread) c.self.view_is ∙ c.requires in
    subst IsEnd (sym (left c)) (c.an_end_keeps.ensures.give_back s c.args.thread c.args.lane.now c.self.invariant.sound held)

pub invariant_of-self : goal.invariant_of-self
invariant_of-self c = let all = (goal.at.invariant_of-self c).After-replace in record { sound = kept all; known = c.self.invariant.known }

pub returns-clause-sound : goal.returns-clause-sound
returns-clause-sound c = kept (goal.at.returns-clause-sound c).After-replace
