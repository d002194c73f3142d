use Rattle.std.proofs.Common.{ℕ, List, ◌++◌, ◌≤◌, length, ap, ◌∙◌, arith}
use Rattle.wl_window.specs.Queue.{Queue}
use Rattle.wl_window.specs.Reordering.{arrived}
use Rattle.wl_history.specs.declared.arrival.Arrival.{Arrival}
use Rattle.wl_replay.specs.Replay.{last_of}
use Rattle.wl_history.specs.EndState.{LaneState, let_up}
use Rattle.wl_end.proofs.Releasing.{let_up_few}
use Rattle.wl_end.proofs.Rising.{ups_fit}
use Rattle.wl_end.proofs.lane_parts.LaneParts.store.Goals as goal
use Rattle.wl_end.proofs.lane_parts.LaneParts.store.Goals.{After-arrive, In-Ok}

-- there is room for all that goes up
rises : (c : In-Ok) → length c.arrive.new.up.items ≤ c.due_on_arrival-most.result
rises c =
    let come = arrived c.self.inside.reorder.window c.args.number c.args.size c.args.arrival in
    let none = c.in_ok-reserve-2.ensures.items ∙ c.self.invariant.drained in
    omega (arith, ups_fit c.reserve-2.new.self come none, c.due_on_arrival-most.ensures.count c.args.arrival, ap (λ (q : Queue Arrival). length q.items) c.in-Ok.ensures.up)

pub release-requires-clause-room : goal.release-requires-clause-room
release-requires-clause-room c = omega (arith, rises (goal.at.release-requires-clause-room c).In-Ok, c.in_ok-reserve.ensures.ok, c.in_ok-reserve.ensures.len, c.from-2.ensures)

pub release-requires-clause-up_room : goal.release-requires-clause-up_room
release-requires-clause-up_room c = omega (arith, rises (goal.at.release-requires-clause-up_room c).In-Ok, c.in_ok-up.ensures.len, c.in_ok-up.ensures.exact, c.from.ensures)

pub returns-clause-fits : goal.returns-clause-fits
returns-clause-fits c =
    let all = goal.at.returns-clause-fits c in
    let few = let_up_few (last_of c.args.guard.now c.args.lane.now) c.arrive.new.up.items in
    let up = ap (λ (l : List ℕ). length l) (c.from_vec.ensures ∙ c.release.ensures.up ∙ ap (λ (l : List ℕ). l ++ (let_up (last_of c.args.guard.now c.args.lane.now) c.arrive.new.up.items).positions) c.in_ok-up.ensures.items) in
    omega (arith, few, rises all.In-Ok, up, c.due_on_arrival-most.ensures.limit, ap (λ (l : LaneState). length l.window.slots) c.self.view_is)
