use Rattle.std.proofs.Common.{take}
use Rattle.wl_inherit.specs.Marks.{LeavesOut}
use Rattle.wl_inherit.proofs.expanded.left_out_of.Given as goal

abbrev pub invariant-own : goal.invariant-own
invariant-own l = LeavesOut (take l.i l.profile) l.marks
