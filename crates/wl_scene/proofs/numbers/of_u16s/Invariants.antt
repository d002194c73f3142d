use Rattle.std.proofs.Common.{◌≡◌, map, take}
use Rattle.serde_json.specs.View.{view}
use Rattle.wl_scene.specs.Objects.{whole}
use Rattle.wl_scene.proofs.numbers.of_u16s.Given as goal

abbrev pub invariant-numbers : goal.invariant-numbers
invariant-numbers l = map view l.values.items ≡ map whole (take l.n-index l.list)
