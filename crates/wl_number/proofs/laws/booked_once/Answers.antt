use Rattle.wl_number.proofs.Rule.{pair_once}
use Rattle.wl_number.proofs.laws.booked_once.Goals as goal

pub returns : goal.returns
returns c = pair_once
