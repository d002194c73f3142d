use Rattle.wl_setup.proofs.Grants.{repeated}
use Rattle.wl_setup.proofs.laws.repeated.Goals as goal

pub returns : goal.returns
returns c = repeated
