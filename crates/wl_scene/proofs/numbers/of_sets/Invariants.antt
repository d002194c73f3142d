use Rattle.std.proofs.Common.{◌≡◌, map, take}
use Rattle.serde_json.specs.View.{view}
use Rattle.wl_scene.specs.Objects.{whole}
use Rattle.wl_scene.proofs.numbers.of_sets.Given as goal

abbrev pub invariant-sets : goal.invariant-sets
invariant-sets l = map view l.values.items ≡ map whole (take l.set-index l.sets)
