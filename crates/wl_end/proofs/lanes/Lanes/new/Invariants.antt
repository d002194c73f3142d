use Rattle.std.proofs.Common.{◌≡◌, replicate}
use Rattle.wl_history.specs.EndState.{no_lane}
use Rattle.wl_end.proofs.lanes.Lanes.new.Given as goal

abbrev pub invariant-lanes : goal.invariant-lanes
invariant-lanes l = l.lanes.items ≡ replicate l._place no_lane
