use Rattle.wl_top.proofs.OneEnding.{decode_settled, check_settled, run_settled}
use Rattle.wl_top.proofs.laws.settled.Goals as goal

pub returns-clause-decode : goal.returns-clause-decode
returns-clause-decode c source sink told e is ends settled = decode_settled source sink told is e ends settled

pub returns-clause-check : goal.returns-clause-check
returns-clause-check c source sink told e is ends settled = check_settled source sink told is e ends settled

pub returns-clause-run : goal.returns-clause-run
returns-clause-run c source sink text told journal e is ends settled = run_settled source sink told is text journal e ends settled
