use Rattle.wl_setup.proofs.Grants.{set_up_by_reply}
use Rattle.wl_setup.proofs.laws.set_up_by_reply.Goals as goal

pub returns : goal.returns
returns c = set_up_by_reply
