use Rattle.wl_joining.proofs.Once.{one_reply}
use Rattle.wl_joining.proofs.laws.replies_read_once.Goals as goal

pub returns : goal.returns
returns c = one_reply c.reply_read_once.ensures c.states_once.ensures
