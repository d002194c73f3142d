use Rattle.wl_number.proofs.Rule.{one_added}
use Rattle.wl_number.proofs.laws.adds_one.Goals as goal

pub returns : goal.returns
returns c = one_added
