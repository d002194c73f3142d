use Rattle.std.specs.String.{string_bytes}
use Rattle.wl_shown.proofs.Bodies.{action_shown, action_refused}
use Rattle.wl_shown.proofs.action.put_action.Goals as goal

pub returns-in-Ok-clause-shown : goal.returns-in-Ok-clause-shown
returns-in-Ok-clause-shown c = action_shown c.args.octets.now c.in-Ok.action c.put_read.result (string_bytes c.put_read.new.items) c.in-Ok.ensures.read c.put_read.ensures.shown

pub returns-in-Ok-clause-refused : goal.returns-in-Ok-clause-refused
returns-in-Ok-clause-refused c = action_refused c.args.octets.now c.in-Ok.action c.put_read.result c.in-Ok.ensures.read c.put_read.ensures.refused
