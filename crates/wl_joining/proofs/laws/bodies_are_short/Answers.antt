use Rattle.wl_joining.proofs.Requests.{ask_bounded}
use Rattle.wl_joining.proofs.Responses.{reply_bounded}
use Rattle.wl_joining.proofs.laws.bodies_are_short.Goals as goal

pub returns-clause-ask : goal.returns-clause-ask
returns-clause-ask c = ask_bounded

pub returns-clause-reply : goal.returns-clause-reply
returns-clause-reply c = reply_bounded
