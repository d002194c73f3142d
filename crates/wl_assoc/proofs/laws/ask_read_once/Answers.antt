use Rattle.wl_assoc.proofs.Bodies.{one_ask_reading}
use Rattle.wl_assoc.proofs.laws.ask_read_once.Goals as goal

pub returns : goal.returns
returns c = one_ask_reading c.read_once.ensures
