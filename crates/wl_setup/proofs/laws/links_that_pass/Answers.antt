use Rattle.wl_setup.proofs.Sets.{has-links_that}
use Rattle.wl_setup.proofs.laws.links_that_pass.Goals as goal

pub returns : goal.returns
returns c = has-links_that
