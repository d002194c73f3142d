use Rattle.wl_inherit.proofs.Once.{one_spelling}
use Rattle.wl_inherit.proofs.laws.spelled_once.Goals as goal

pub returns : goal.returns
returns c = one_spelling
