use Rattle.wl_assoc.proofs.Once.{one_answer}
use Rattle.wl_assoc.proofs.laws.states_once.Goals as goal

pub returns : goal.returns
returns c = one_answer c.read_once.ensures c.read_once-2.ensures c.expanded_once.ensures
