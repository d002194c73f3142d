use Rattle.std.proofs.Common.{◌≡◌, ◌+◌, ◌≤◌, drop}
use Rattle.serde_json.specs.View.{items_view}
use Rattle.wl_scene.specs.Items.{count_all}
use Rattle.wl_scene.proofs.items.are_few.Given as goal

-- with what is left the count is that of all
abbrev pub invariant-commands : goal.invariant-commands
invariant-commands l = record {
  whole : l.count + count_all (items_view (drop l.value-index l.values)) ≡ count_all (items_view l.values);
  few : l.count ≤ 65536;
}
