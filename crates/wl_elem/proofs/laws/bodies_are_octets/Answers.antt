use Rattle.wl_elem.proofs.Items.{bodies_octets}
use Rattle.wl_elem.proofs.laws.bodies_are_octets.Goals as goal

pub returns : goal.returns
returns c = bodies_octets
