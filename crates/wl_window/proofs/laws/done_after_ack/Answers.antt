use Rattle.wl_window.proofs.Keeping.{done_after_ack}
use Rattle.wl_window.proofs.laws.done_after_ack.Goals as goal

pub returns : goal.returns
returns c = done_after_ack
