use Rattle.wl_message.proofs.Again.{message_again}
use Rattle.wl_message.proofs.laws.a_message_is_read.Goals as goal

pub returns : goal.returns
returns c = message_again
