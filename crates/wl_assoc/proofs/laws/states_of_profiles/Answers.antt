use Rattle.wl_assoc.proofs.Linked.{states_linked}
use Rattle.wl_assoc.proofs.laws.states_of_profiles.Goals as goal

pub returns : goal.returns
returns c = states_linked
