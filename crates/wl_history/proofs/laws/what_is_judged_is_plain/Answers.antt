use Rattle.wl_history.proofs.Cases.{plain_answer}
use Rattle.wl_history.proofs.laws.what_is_judged_is_plain.Goals as goal

pub returns : goal.returns
returns c = plain_answer
