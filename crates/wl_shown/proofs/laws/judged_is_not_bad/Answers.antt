use Rattle.wl_shown.proofs.Once.{not_judged}
use Rattle.wl_shown.proofs.laws.judged_is_not_bad.Goals as goal

pub returns : goal.returns
returns c = not_judged
