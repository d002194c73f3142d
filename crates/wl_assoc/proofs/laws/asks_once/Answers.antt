use Rattle.wl_assoc.proofs.Once.{one_asking}
use Rattle.wl_assoc.proofs.laws.asks_once.Goals as goal

pub returns : goal.returns
returns c = one_asking c.read_once.ensures c.read_once-2.ensures c.expanded_once.ensures
