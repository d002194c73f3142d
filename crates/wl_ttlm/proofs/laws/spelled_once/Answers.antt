use Rattle.wl_ttlm.proofs.Once.{one_spelling}
use Rattle.wl_ttlm.proofs.laws.spelled_once.Goals as goal

pub returns : goal.returns
returns c = one_spelling
