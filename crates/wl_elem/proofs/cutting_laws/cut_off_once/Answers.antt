use Rattle.wl_elem.proofs.Once.{one_cut_off}
use Rattle.wl_elem.proofs.cutting_laws.cut_off_once.Goals as goal

pub returns : goal.returns
returns c = one_cut_off
