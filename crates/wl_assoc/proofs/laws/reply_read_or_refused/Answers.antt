use Rattle.wl_assoc.proofs.Bodies.{reply_is_read}
use Rattle.wl_assoc.proofs.laws.reply_read_or_refused.Goals as goal

pub returns : goal.returns
returns c = reply_is_read c.read_or_refused.ensures
