use Rattle.std.proofs.Common.{◌≡◌, drop, option_and_then}
use Rattle.serde_json.specs.View.{items_view}
use Rattle.wl_scene.specs.Head.{set_of}
use Rattle.wl_scene.specs.Sound.{AreLinksOf}
use Rattle.wl_scene.proofs.Policies.{risen, reading_ids}
use Rattle.wl_scene.proofs.policy.set_of.Given as goal

-- the IDs that are left give the set of all, with those so far in it
abbrev pub invariant-ids : goal.invariant-ids
invariant-ids l = record {
  whole : option_and_then (risen l.low l.set) (reading_ids l.links (drop l.value-index l.values)) ≡ set_of l.links (items_view l.values);
  among : AreLinksOf l.links l.set;
}
