use Rattle.wl_assoc.proofs.Bodies.{ask_is_read}
use Rattle.wl_assoc.proofs.laws.ask_read_or_refused.Goals as goal

pub returns : goal.returns
returns c = ask_is_read c.read_or_refused.ensures
