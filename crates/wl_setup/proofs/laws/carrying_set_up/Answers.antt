use Rattle.wl_setup.proofs.Grants.{carrying_set_up}
use Rattle.wl_setup.proofs.laws.carrying_set_up.Goals as goal

pub returns : goal.returns
returns c = carrying_set_up
