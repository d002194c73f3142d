use Rattle.std.proofs.Common.{◌≡◌, ◌++◌, drop}
use Rattle.wl_history.specs.EndState.{lane_at}
use Rattle.wl_scene.specs.Account.{per_lane}
use Rattle.wl_scene.proofs.account.released.Given as goal

-- with the lanes that are left there are all nine
abbrev pub invariant-lanes : goal.invariant-lanes
invariant-lanes l = l.lanes ++ drop l.place (per_lane (λ k. (lane_at l.end k).released)) ≡ per_lane (λ k. (lane_at l.end k).released)
