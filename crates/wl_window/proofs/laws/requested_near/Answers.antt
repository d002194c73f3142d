use Rattle.wl_window.proofs.Near.{requested_near}
use Rattle.wl_window.proofs.laws.requested_near.Goals as goal

pub returns : goal.returns
returns g c = requested_near
