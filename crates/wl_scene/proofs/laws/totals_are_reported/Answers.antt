use Rattle.wl_scene.proofs.Accounts.{reports}
use Rattle.wl_scene.proofs.laws.totals_are_reported.Goals as goal

pub returns : goal.returns
returns c = reports
