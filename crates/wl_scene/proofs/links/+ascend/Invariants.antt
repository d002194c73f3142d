use Rattle.std.proofs.Common.{length}
use Rattle.wl_scene.proofs.links.+ascend.Given as goal

abbrev pub decreases-ascend : goal.decreases-ascend
decreases-ascend l = length l.links.now
