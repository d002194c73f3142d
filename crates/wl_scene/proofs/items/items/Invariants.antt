use Rattle.std.proofs.Common.{◌≡◌, ◌+◌, ◌≤◌, drop}
use Rattle.serde_json.specs.View.{items_view}
use Rattle.wl_scene.specs.Items.{count_all}
use Rattle.wl_scene.proofs.Scripts.{resumed, reading_all}
use Rattle.wl_scene.proofs.items.items.Given as goal

-- what is left, behind the commands so far, is read as all are; and the places so far are few
abbrev pub invariant-commands : goal.invariant-commands
invariant-commands l = record {
  read : reading_all l.links l.values ≡ resumed l.script l.before (reading_all l.links (drop l.value-index l.values));
  few : l.before + count_all (items_view (drop l.value-index l.values)) ≤ l.value-index + 65536;
}
