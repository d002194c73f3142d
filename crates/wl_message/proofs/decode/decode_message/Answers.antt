use Rattle.std.proofs.lemmas.Result.{IfOk-weaker}
use Rattle.wl_message.proofs.Answered.{none_refused, none_found, answered}
use Rattle.wl_message.proofs.decode.decode_message.Goals as goal

pub returns-in-Err-Refused : goal.returns-in-Err-Refused
returns-in-Err-Refused c = none_refused c.args.body.now c.in-Err-Refused.field-0-0 (rw c.in-Err-Refused.field-0-is at c.in-Err-Refused.ensures.only)

pub returns-in-Some : goal.returns-in-Some
returns-in-Some c = IfOk-weaker c.checked.result _ _ (answered c.args.body.now c.in-Ok.action c.in-Some.message c.in-Ok.ensures.only (rw c.in-Some.is at c.in_ok-message.ensures)) c.checked.ensures

pub returns : goal.returns
returns c = none_found c.args.body.now c.in-Ok.action c.in-Ok.ensures.only (rw c.in-None.is at c.in_ok-message.ensures)
