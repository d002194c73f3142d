use Rattle.wl_joining.proofs.Once.{one_ask}
use Rattle.wl_joining.proofs.laws.asks_read_once.Goals as goal

pub returns : goal.returns
returns c = one_ask c.ask_read_once.ensures c.asks_once.ensures c.read_once.ensures
