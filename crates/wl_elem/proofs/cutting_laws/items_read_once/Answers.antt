use Rattle.wl_elem.proofs.Items.{one_list}
use Rattle.wl_elem.proofs.cutting_laws.items_read_once.Goals as goal

pub returns : goal.returns
returns c = one_list
