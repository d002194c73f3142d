use Rattle.std.proofs.Common.{◌≡◌, length, take}
use Rattle.wl_map.specs.Agreeing.{kept}
use Rattle.wl_map.proofs.agreed.kept.Given as goal

abbrev pub invariant-tids : goal.invariant-tids
invariant-tids l = record {
  eight : length l.sets ≡ 8;
  so_far : take l.tid l.sets ≡ take l.tid (kept l.links l.bitmaps);
}
