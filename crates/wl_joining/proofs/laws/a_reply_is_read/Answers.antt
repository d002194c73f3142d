use Rattle.wl_joining.proofs.Responses.{reply_again}
use Rattle.wl_joining.proofs.laws.a_reply_is_read.Goals as goal

pub returns : goal.returns
returns c = reply_again
