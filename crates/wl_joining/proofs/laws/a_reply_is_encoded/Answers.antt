use Rattle.wl_joining.proofs.Responses.{reply_written, reply_element}
use Rattle.wl_joining.proofs.laws.a_reply_is_encoded.Goals as goal

pub returns-clause-body : goal.returns-clause-body
returns-clause-body c = reply_written

pub returns-clause-element : goal.returns-clause-element
returns-clause-element c = reply_element
