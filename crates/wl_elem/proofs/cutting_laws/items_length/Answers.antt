use Rattle.wl_elem.proofs.Pieces.{items_length}
use Rattle.wl_elem.proofs.cutting_laws.items_length.Goals as goal

pub returns : goal.returns
returns c = items_length
