use Rattle.wl_mle.proofs.Once.{one_spelling}
use Rattle.wl_mle.proofs.laws.spelled_once.Goals as goal

pub returns : goal.returns
returns c = one_spelling c.items_spelled_once.ensures
