use Rattle.wl_elem.proofs.Lists.{one_reading}
use Rattle.wl_elem.proofs.laws.read_once.Goals as goal

pub returns : goal.returns
returns c = one_reading
