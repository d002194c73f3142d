use Rattle.wl_message.proofs.Answered.{entry_read, entry_refused}
use Rattle.wl_message.proofs.decode.entry_of.Goals as goal

pub returns-in-Ok : goal.returns-in-Ok
returns-in-Ok c = entry_read c.args.element.now c.in-Ok.value c.entry_in.result c.entry_in.ensures c.in-Ok.ensures.read c.in-Ok.ensures.only

pub returns-in-Err-Refused : goal.returns-in-Err-Refused
returns-in-Err-Refused c = entry_refused c.args.element.now c.in-Err-Refused.field-0-0 (rw c.in-Err-Refused.field-0-is at c.in-Err-Refused.ensures.only)
