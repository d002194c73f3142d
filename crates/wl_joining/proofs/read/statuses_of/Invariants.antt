use Rattle.wl_joining.specs.Joining.{status_in}
use Rattle.wl_joining.proofs.Tables.{IsFilledTo}
use Rattle.wl_joining.proofs.read.statuses_of.Given as goal

abbrev pub invariant-links : goal.invariant-links
invariant-links l = IsFilledTo (status_in l.states) l.status l.id
