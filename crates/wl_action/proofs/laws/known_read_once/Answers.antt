use Rattle.wl_action.proofs.Knowns.{known_once}
use Rattle.wl_action.proofs.laws.known_read_once.Goals as goal

pub returns : goal.returns
returns c = known_once c.read_once.ensures c.read_once-2.ensures
