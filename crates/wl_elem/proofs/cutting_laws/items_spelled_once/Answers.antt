use Rattle.wl_elem.proofs.Items.{one_text}
use Rattle.wl_elem.proofs.cutting_laws.items_spelled_once.Goals as goal

pub returns : goal.returns
returns c = one_text
