use Rattle.wl_window.proofs.Keeping.{nothing_lost}
use Rattle.wl_window.proofs.laws.nothing_lost.Goals as goal

pub returns : goal.returns
returns g c = nothing_lost
