use Rattle.std.proofs.Common.{◌≡◌, ◌-◌, drop}
use Rattle.wl_window.specs.Originating.{has_free}
use Rattle.wl_window.proofs.marks.lacks.Given as goal

abbrev pub invariant-marks : goal.invariant-marks
invariant-marks l = has_free (l.count - l.index) (drop l.index l.marks.items) ≡ has_free l.count l.marks.items
