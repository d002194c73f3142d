use Rattle.wl_elem.proofs.Scanning.{cut_or_refused}
use Rattle.wl_elem.proofs.cutting_laws.items_cut_or_refused.Goals as goal

pub returns : goal.returns
returns c = cut_or_refused
