use Rattle.wl_joining.proofs.Only.{mld_refused}
use Rattle.wl_joining.proofs.read.mld_of.Goals as goal

pub returns-in-Err-Refused : goal.returns-in-Err-Refused
returns-in-Err-Refused c =
    let only = c.in-Some.ensures.some in
    mld_refused c.args.list.now only.0 c.in-Some.element.now c.in-Err-Refused.field-0-0 only.1 (rw c.in-Err-Refused.field-0-is at c.in-Err-Refused.ensures.only)
