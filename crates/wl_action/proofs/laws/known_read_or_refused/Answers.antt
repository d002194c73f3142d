use Rattle.wl_action.proofs.Knowns.{known_read}
use Rattle.wl_action.proofs.laws.known_read_or_refused.Goals as goal

pub returns : goal.returns
returns c = known_read c.read_or_refused.ensures c.read_or_refused-2.ensures
