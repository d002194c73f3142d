use Rattle.std.proofs.Common.{ℕ}
use Rattle.wl_history.specs.EndState.{lane_at}
use Rattle.wl_scene.proofs.Accounts.{lane_more}
use Rattle.wl_scene.proofs.account.released.Goals as goal

pub lanes-preserved : goal.lanes-preserved
lanes-preserved c = lane_more (λ (k : ℕ). (lane_at c.args.end.now k).released) c.lanes.place c.lanes.lanes c.push_released.new.lanes c.lanes-test.true c.lanes.invariant c.in_ok-push_released.ensures
