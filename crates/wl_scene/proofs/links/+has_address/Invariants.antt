use Rattle.std.proofs.Common.{length}
use Rattle.wl_scene.proofs.links.+has_address.Given as goal

abbrev pub decreases-has_address : goal.decreases-has_address
decreases-has_address l = length l.links.now
