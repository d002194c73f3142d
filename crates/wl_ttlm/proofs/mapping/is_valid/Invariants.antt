use Rattle.std.proofs.Common.{◌≡◌, true, take}
use Rattle.wl_ttlm.specs.Mapping.{IsMapping, is_mapping}
use Rattle.wl_ttlm.proofs.mapping.is_valid.Given as goal

abbrev pub invariant-sets : goal.invariant-sets
invariant-sets l = record {
  so_far : IsMapping l.links (take l.set-index l.mapping.sets);
  tested : is_mapping l.links (take l.set-index l.mapping.sets) ≡ true;
}
