use Rattle.wl_shown.proofs.Once.{not_both}
use Rattle.wl_shown.proofs.laws.shown_is_not_bad.Goals as goal

pub returns : goal.returns
returns c = not_both
