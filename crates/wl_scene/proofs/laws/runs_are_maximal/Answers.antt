use Rattle.wl_scene.proofs.Maximal.{maximal}
use Rattle.wl_scene.proofs.laws.runs_are_maximal.Goals as goal

pub returns : goal.returns
returns c = maximal
