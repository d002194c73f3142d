use Rattle.std.proofs.Common.{◌≡◌, ◌<◌, ◌||◌, ℕ, drop, is_some}
use Rattle.wl_elem.specs.Links.{link_limit, has_link}
use Rattle.wl_history.specs.Ends.{link_at, links_in}
use Rattle.wl_end.proofs.links.set_of.Given as goal

abbrev pub invariant-links : goal.invariant-links
invariant-links l = (links_in l.set (drop l.link-index l.links) ≡ links_in 0 l.links) × ((k : ℕ) → k < link_limit → (has_link l.set k || is_some (link_at k (drop l.link-index l.links))) ≡ is_some (link_at k l.links))
