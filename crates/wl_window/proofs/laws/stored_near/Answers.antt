use Rattle.wl_window.proofs.Near.{stored_near}
use Rattle.wl_window.proofs.laws.stored_near.Goals as goal

pub returns : goal.returns
returns g c = stored_near
