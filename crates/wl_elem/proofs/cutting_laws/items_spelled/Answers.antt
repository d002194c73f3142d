use Rattle.wl_elem.proofs.Scanning.{items_exist}
use Rattle.wl_elem.proofs.cutting_laws.items_spelled.Goals as goal

pub returns : goal.returns
returns c = items_exist
