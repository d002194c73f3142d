use Rattle.wl_scene.proofs.Readings.{always}
use Rattle.wl_scene.proofs.laws.read_or_refused.Goals as goal

pub returns : goal.returns
returns c = always
