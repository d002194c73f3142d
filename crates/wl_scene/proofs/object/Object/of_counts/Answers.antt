use Rattle.std.proofs.Common.{ap}
use Rattle.serde_json.specs.Data.{object}
use Rattle.wl_scene.specs.Report.{count_shown}
use Rattle.wl_scene.proofs.Lanes.{all_lanes}
use Rattle.wl_scene.proofs.object.Object.of_counts.Goals as goal

pub returns : goal.returns
returns c = ap object (all_lanes count_shown _ c.lanes.place c.args.counts.now _ _ c.lanes-test.false c.lanes.invariant)
