use Rattle.wl_setup.specs.Messages.{address_on}
use Rattle.wl_setup.proofs.Tables.{IsFilledTo}
use Rattle.wl_setup.proofs.table.addresses_on.Given as goal

abbrev pub invariant-links : goal.invariant-links
invariant-links l = IsFilledTo (address_on l.macs l.links) l.kept l.id
