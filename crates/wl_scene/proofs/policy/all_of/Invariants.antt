use Rattle.std.proofs.Common.{◌≡◌, drop}
use Rattle.wl_history.specs.Ends.{links_in}
use Rattle.wl_scene.specs.Sound.{AreLinksOf}
use Rattle.wl_scene.proofs.policy.all_of.Given as goal

-- with the links that are left the set is that of all, and each of its links is one of them
abbrev pub invariant-links : goal.invariant-links
invariant-links l = record {
  whole : links_in l.set (drop l.link-index l.links) ≡ links_in 0 l.links;
  among : AreLinksOf l.links l.set;
}
