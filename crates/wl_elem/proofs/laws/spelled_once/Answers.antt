use Rattle.wl_elem.proofs.Lists.{one_spelling}
use Rattle.wl_elem.proofs.laws.spelled_once.Goals as goal

pub returns : goal.returns
returns c = one_spelling
