use Rattle.wl_window.proofs.Keeping.{order_kept}
use Rattle.wl_window.proofs.laws.order_kept.Goals as goal

pub returns : goal.returns
returns g c = order_kept
