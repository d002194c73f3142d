use Rattle.wl_assoc.proofs.Bodies.{one_reply_reading}
use Rattle.wl_assoc.proofs.laws.reply_read_once.Goals as goal

pub returns : goal.returns
returns c = one_reply_reading c.read_once.ensures
