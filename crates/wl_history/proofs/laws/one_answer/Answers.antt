use Rattle.wl_history.proofs.Once.{answered_once}
use Rattle.wl_history.proofs.laws.one_answer.Goals as goal

pub returns : goal.returns
returns c = answered_once c.read_once.ensures
