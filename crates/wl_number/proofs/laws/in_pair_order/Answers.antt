use Rattle.wl_number.proofs.Drawing.{pair_order}
use Rattle.wl_number.proofs.laws.in_pair_order.Goals as goal

pub returns : goal.returns
returns c = pair_order
