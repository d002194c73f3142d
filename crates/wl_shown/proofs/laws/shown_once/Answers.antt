use Rattle.wl_shown.proofs.Once.{one_text}
use Rattle.wl_shown.proofs.laws.shown_once.Goals as goal

pub returns : goal.returns
returns c = one_text c.answers_once.ensures
