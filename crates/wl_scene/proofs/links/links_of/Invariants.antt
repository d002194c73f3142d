use Rattle.std.proofs.Common.{◌≡◌, drop}
use Rattle.std.specs.List.{AllByRecursion}
use Rattle.wl_scene.specs.Head.{link_of}
use Rattle.wl_scene.specs.Sound.{IsSoundLink}
use Rattle.wl_scene.proofs.Scripts.{behind, reading_each}
use Rattle.wl_scene.proofs.links.links_of.Given as goal

-- what is left, behind the links so far, is read as all are
abbrev pub invariant-links : goal.invariant-links
invariant-links l = record {
  read : reading_each link_of l.values ≡ behind l.links (reading_each link_of (drop l.value-index l.values));
  sound : AllByRecursion IsSoundLink l.links;
}
