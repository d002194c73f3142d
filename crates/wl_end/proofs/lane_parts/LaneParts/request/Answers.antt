use Rattle.std.proofs.Common.{ℕ, List, ◌++◌, ◌≤◌, length, ap, ◌∙◌, arith}
use Rattle.wl_window.specs.Queue.{Queue}
use Rattle.wl_window.specs.Reordering.{requested}
use Rattle.wl_history.specs.declared.arrival.Arrival.{Arrival}
use Rattle.wl_replay.specs.Replay.{last_of}
use Rattle.wl_history.specs.EndState.{LaneState, let_up}
use Rattle.wl_end.proofs.Releasing.{let_up_few}
use Rattle.wl_end.proofs.Rising.{asked_fit}
use Rattle.wl_end.proofs.lane_parts.LaneParts.request.Goals as goal

pub returns-clause-fits : goal.returns-clause-fits
returns-clause-fits c =
    let asked = requested c.self.inside.reorder.window c.args.start in
    let none = c.in_ok-reserve-2.ensures.items ∙ c.self.invariant.drained in
    let rises : length c.request.new.up.items ≤ c.due_on_request-most.result = omega (arith, asked_fit c.reserve-2.new.self asked none, c.due_on_request-most.ensures.count, ap (λ (q : Queue Arrival). length q.items) c.request.ensures.up) in
    let few = let_up_few (last_of c.args.guard.now c.args.lane.now) c.request.new.up.items in
    let up = ap (λ (l : List ℕ). length l) (c.from_vec.ensures ∙ c.release.ensures.up ∙ ap (λ (l : List ℕ). l ++ (let_up (last_of c.args.guard.now c.args.lane.now) c.request.new.up.items).positions) c.in_ok-up.ensures.items) in
    omega (arith, few, rises, up, c.due_on_request-most.ensures.limit, ap (λ (l : LaneState). length l.window.slots) c.self.view_is)
