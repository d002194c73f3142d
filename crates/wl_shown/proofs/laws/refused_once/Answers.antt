use Rattle.wl_shown.proofs.Once.{one_bad}
use Rattle.wl_shown.proofs.laws.refused_once.Goals as goal

pub returns : goal.returns
returns c = one_bad
