use Rattle.wl_scene.proofs.Accounts.{once}
use Rattle.wl_scene.proofs.laws.reported_once.Goals as goal

pub returns : goal.returns
returns c = once
