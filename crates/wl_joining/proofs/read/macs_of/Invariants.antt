use Rattle.wl_joining.specs.Joining.{mac_on}
use Rattle.wl_joining.proofs.Tables.{IsFilledTo}
use Rattle.wl_joining.proofs.read.macs_of.Given as goal

abbrev pub invariant-links : goal.invariant-links
invariant-links l = IsFilledTo (mac_on l.on l.mac l.asks) l.macs l.id
