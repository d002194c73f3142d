-- The window keeps the room that it was made with.
use Rattle.std.proofs.Common.{◌≤◌}
use Rattle.call_cases.proofs.window.reorder.Given as goal

abbrev pub invariant-loop-op : goal.invariant-loop-op
invariant-loop-op l = 64 ≤ l.reorder.room
