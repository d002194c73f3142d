use Rattle.wl_number.proofs.Drawing.{highest}
use Rattle.wl_number.proofs.laws.highest_breaks_none.Goals as goal

pub returns : goal.returns
returns c = highest
