use Rattle.wl_joining.proofs.Requests.{ask_written, ask_element}
use Rattle.wl_joining.proofs.laws.an_ask_is_encoded.Goals as goal

pub returns-clause-body : goal.returns-clause-body
returns-clause-body c = λ ask list octets is of. ask_written ask is list octets of

pub returns-clause-element : goal.returns-clause-element
returns-clause-element c = ask_element
