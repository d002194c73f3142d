use Rattle.std.proofs.Common.{◌≡◌}
use Rattle.wl_setup.specs.Table.{is_named, passing_below}
use Rattle.wl_setup.proofs.table.links_named.Given as goal

abbrev pub invariant-links : goal.invariant-links
invariant-links l = l.links ≡ passing_below (is_named l.macs) l.id
