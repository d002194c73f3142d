use Rattle.wl_history.proofs.Numbered.{renumbered}
use Rattle.wl_history.proofs.laws.another_number.Goals as goal

pub returns : goal.returns
returns c = renumbered
