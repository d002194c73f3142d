use Rattle.std.proofs.Common.{◌≡◌, drop}
use Rattle.wl_history.specs.Ends.{link_at}
use Rattle.wl_end.proofs.links.link_at.Given as goal

abbrev pub invariant-links : goal.invariant-links
invariant-links l = link_at l.id (drop l.link-index l.links) ≡ link_at l.id l.links
