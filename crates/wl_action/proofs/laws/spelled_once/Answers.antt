use Rattle.wl_action.proofs.Readings.{one_spelling}
use Rattle.wl_action.proofs.laws.spelled_once.Goals as goal

pub returns : goal.returns
returns c = one_spelling c.spelled_once.ensures
