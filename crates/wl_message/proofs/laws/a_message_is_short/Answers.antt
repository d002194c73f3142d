use Rattle.wl_message.proofs.Again.{message_short}
use Rattle.wl_message.proofs.laws.a_message_is_short.Goals as goal

pub returns : goal.returns
returns c = message_short
