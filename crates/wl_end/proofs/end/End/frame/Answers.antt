use Rattle.std.proofs.Common.{ℕ, ◌<◌, List, length, subst, sym, ap, ◌∙◌}
use Rattle.std.specs.List.{Contains}
use Rattle.wl_elem.specs.Lanes.{lane_index}
use Rattle.wl_number.specs.OrderRule.{list_of}
use Rattle.wl_history.specs.EndState.{EndState, LaneState, IsEnd, aired_at, with_frame}
use Rattle.wl_end.specs.Parts.{with_lane_of}
use Rattle.wl_end.specs.contracts.end.End.{the_view}
use Rattle.wl_end.proofs.end.End.frame.Goals as goal
use Rattle.wl_end.proofs.end.End.frame.Goals.{After-air}

pub frame_octets-requires-clause-range : goal.frame_octets-requires-clause-range
frame_octets-requires-clause-range g c =
    let there : Contains (list_of (the_view c.self.inside).booked c.args.lane.now) c.args.n.now = subst (λ (s : EndState). Contains (list_of s.booked c.args.lane.now) c.args.n.now) (sym c.self.view_is) c.requires.booked in
    c.at.ensures.is_book.in_range (lane_index c.args.lane.now) c.args.n.now there

pub air-requires : goal.air-requires
air-requires g c =
    let there : Contains (list_of (the_view c.self.inside).booked c.args.lane.now) c.args.n.now = subst (λ (s : EndState). Contains (list_of s.booked c.args.lane.now) c.args.n.now) (sym c.self.view_is) c.requires.booked in
    subst (λ (l : LaneState). c.args.n.now.pos < length l.queue) (sym c.at_mut.ensures.value) (c.self.invariant.sound.sender.queued (lane_index c.args.lane.now) c.args.n.now there)

kept : (g : _) (c : After-air g) → IsEnd (the_view (record c.self.inside { lanes = with_lane_of c.self.inside.lanes c.args.lane.now c.air.new.self; frames = c.push.new.self }))
kept g c =
    let s = the_view c.self.inside in
    let lane = c.args.lane.now in
    let n = c.args.n.now in
    let t = with_frame c.args.link c.in_ok-octets.octets lane n s in
    let made = λ (l : List LaneState) (f : List (List (List ℕ))). let e : EndState = record s { lanes = l; frames = f } in e in
    let own = c.air.ensures ∙ ap (λ (l : LaneState). let m : LaneState = record l { aired = aired_at n.pos l.aired } in m) c.at_mut.ensures.value in
    subst (λ (l : LaneState). IsEnd (made (with_lane_of s.lanes lane l) c.push.new.self)) (sym own)
    (subst (λ (f : List (List (List ℕ))). IsEnd (made t.lanes f)) (sym c.in_ok-push.ensures.ok) (c.an_end_keeps.ensures.frame s lane n c.args.link c.in_ok-octets.octets c.self.invariant.sound))

pub invariant_of-self-2 : goal.invariant_of-self-2
invariant_of-self-2 g c = let all = (goal.at.invariant_of-self-2 g c).After-air in record { sound = kept g all; known = c.self.invariant.known }

pub returns-clause-sound : goal.returns-clause-sound
returns-clause-sound g c = kept g (goal.at.returns-clause-sound g c).After-air
