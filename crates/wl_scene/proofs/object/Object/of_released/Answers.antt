use Rattle.std.proofs.Common.{ap}
use Rattle.serde_json.specs.Data.{object}
use Rattle.wl_scene.specs.Report.{runs_shown}
use Rattle.wl_scene.proofs.Lanes.{all_lanes}
use Rattle.wl_scene.proofs.object.Object.of_released.Goals as goal

pub returns : goal.returns
returns c = ap object (all_lanes runs_shown _ c.lanes.place c.args.released.now _ _ c.lanes-test.false c.lanes.invariant)
