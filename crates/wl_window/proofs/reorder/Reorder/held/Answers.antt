use Rattle.std.proofs.Common.{arith, ap, ◌≤◌}
use Rattle.wl_window.specs.Reordering.{Store}
use Rattle.wl_window.proofs.reorder.Reorder.held.Goals as goal

pub overflow_cast-result : goal.overflow_cast-result
overflow_cast-result g c = let held = c.self.invariant.0.bounded in let limit : c.self.inside.room ≤ 1024 = c.self.invariant.0.room_limit in let len = c.self.inside.slots.ok.0 in omega (arith, held, limit, len, c.len.ensures)

pub returns-clause-limit : goal.returns-clause-limit
returns-clause-limit g c =
    let held = c.self.invariant.0.bounded in let len = c.self.inside.slots.ok.0 in let room = ap (λ (s : Store g.row.T.Denot). s.room) c.self.view_is in omega (arith, held, len, c.len.ensures, room)
