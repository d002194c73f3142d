use Rattle.wl_setup.proofs.Requests.{same_ask-Decides}
use Rattle.wl_setup.proofs.laws.same_if_equal.Goals as goal

pub returns : goal.returns
returns c = same_ask-Decides
