use Rattle.wl_history.proofs.Idle.{up_at_once}
use Rattle.wl_history.proofs.laws.management_goes_up_at_once.Goals as goal

pub returns : goal.returns
returns c = up_at_once
