use Rattle.std.proofs.Common.{◌≡◌, drop}
use Rattle.serde_json.specs.Data.{no_members}
use Rattle.wl_scene.specs.Built.{built}
use Rattle.wl_scene.specs.Objects.{with_members}
use Rattle.wl_scene.specs.Report.{lane_names, count_shown, by_lane}
use Rattle.wl_scene.proofs.object.Object.of_counts.Given as goal

-- with the lanes that are left they are whole
abbrev pub invariant-lanes : goal.invariant-lanes
invariant-lanes l = with_members (by_lane count_shown (drop l.place lane_names) (drop l.place l.counts)) (built l.lanes) ≡ with_members (by_lane count_shown lane_names l.counts) no_members
