use Rattle.wl_scene.proofs.Readings.{once}
use Rattle.wl_scene.proofs.laws.read_once.Goals as goal

pub returns : goal.returns
returns c = once
