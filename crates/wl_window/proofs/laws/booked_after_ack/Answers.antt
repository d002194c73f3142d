use Rattle.wl_window.proofs.Booked.{acking_keeps}
use Rattle.wl_window.proofs.laws.booked_after_ack.Goals as goal

pub returns : goal.returns
returns c = acking_keeps
