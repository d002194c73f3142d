use Rattle.wl_message.proofs.Again.{one_message}
use Rattle.wl_message.proofs.laws.a_body_is_one_message.Goals as goal

pub returns : goal.returns
returns c = one_message
