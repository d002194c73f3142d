use Rattle.wl_elem.proofs.Items.{not_cut_off}
use Rattle.wl_elem.proofs.cutting_laws.items_not_both.Goals as goal

pub returns : goal.returns
returns c = not_cut_off
