use Rattle.wl_history.proofs.Once.{one}
use Rattle.wl_history.proofs.laws.one_history.Goals as goal

pub returns : goal.returns
returns c = one c.read_once.ensures
