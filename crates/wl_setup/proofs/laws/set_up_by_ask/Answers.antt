use Rattle.wl_setup.proofs.Grants.{set_up_by_ask}
use Rattle.wl_setup.proofs.laws.set_up_by_ask.Goals as goal

pub returns : goal.returns
returns c = set_up_by_ask
