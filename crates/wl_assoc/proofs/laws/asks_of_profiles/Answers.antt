use Rattle.wl_assoc.proofs.Linked.{asks_linked}
use Rattle.wl_assoc.proofs.laws.asks_of_profiles.Goals as goal

pub returns : goal.returns
returns c = asks_linked
