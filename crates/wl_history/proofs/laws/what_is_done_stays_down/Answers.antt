use Rattle.wl_history.proofs.Sent.{aired_undone}
use Rattle.wl_history.proofs.laws.what_is_done_stays_down.Goals as goal

pub returns : goal.returns
returns c = aired_undone
