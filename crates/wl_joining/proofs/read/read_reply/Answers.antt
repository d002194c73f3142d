use Rattle.std.proofs.lemmas.Result.{IfOk-weaker}
use Rattle.wl_joining.proofs.Taken.{reply_body_refused, reply_of_body}
use Rattle.wl_joining.proofs.read.read_reply.Goals as goal

pub returns-in-Err-Refused : goal.returns-in-Err-Refused
returns-in-Err-Refused c = reply_body_refused c.args.on c.args.body.now c.in-Err-Refused.field-0-0 (rw c.in-Err-Refused.field-0-is at c.in-Err-Refused.ensures.only)

pub returns : goal.returns
returns c = IfOk-weaker c.reply_from.result _ _ (reply_of_body c.args.on c.args.body.now c.in-Ok.value c.in-Ok.ensures.read c.in-Ok.ensures.only) c.reply_from.ensures
