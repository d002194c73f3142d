use Rattle.wl_joining.proofs.Requests.{ask_again}
use Rattle.wl_joining.proofs.laws.an_ask_is_read.Goals as goal

pub returns : goal.returns
returns c = ask_again
