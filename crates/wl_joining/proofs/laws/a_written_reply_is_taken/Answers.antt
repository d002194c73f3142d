use Rattle.wl_joining.proofs.Again.{reply_as_written}
use Rattle.wl_joining.proofs.laws.a_written_reply_is_taken.Goals as goal

pub returns : goal.returns
returns c mld macs reply taken is = reply_as_written c.replies_read_once.ensures reply.on _ reply taken (c.a_reply_is_read.ensures mld macs reply is)
