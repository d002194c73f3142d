use Rattle.std.proofs.Common.{◌≡◌}
use Rattle.wl_setup.specs.Messages.{is_granted}
use Rattle.wl_setup.specs.Table.{passing_below}
use Rattle.wl_setup.proofs.table.links_granted.Given as goal

abbrev pub invariant-links : goal.invariant-links
invariant-links l = l.links ≡ passing_below (is_granted l.macs l.status) l.id
