use Rattle.wl_elem.proofs.Total.{is_spelled}
use Rattle.wl_elem.proofs.laws.spelled.Goals as goal

pub returns : goal.returns
returns c = is_spelled
