use Rattle.wl_shown.proofs.Once.{one_judging}
use Rattle.wl_shown.proofs.laws.judged_once.Goals as goal

pub returns : goal.returns
returns c = one_judging c.answers_once.ensures
