use Rattle.std.proofs.Common.{◌≡◌, ◌-◌, ◌++◌, map}
use Rattle.serde_json.specs.View.{view}
use Rattle.wl_scene.specs.Objects.{whole}
use Rattle.wl_scene.specs.Report.{chosen, ids_of}
use Rattle.wl_scene.proofs.numbers.of_links.Given as goal

-- with the links that are left they are whole
abbrev pub invariant-links : goal.invariant-links
invariant-links l = map view l.values.items ++ map whole (chosen l.set (15 - l.id) l.id) ≡ map whole (ids_of l.set)
