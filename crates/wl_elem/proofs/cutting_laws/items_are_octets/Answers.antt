use Rattle.wl_elem.proofs.Items.{are_octets}
use Rattle.wl_elem.proofs.cutting_laws.items_are_octets.Goals as goal

pub returns : goal.returns
returns c = are_octets
