use Rattle.std.proofs.Common.{◌≡◌, length, take}
use Rattle.wl_map.specs.Agreeing.{named}
use Rattle.wl_map.proofs.agreed.named.Given as goal

abbrev pub invariant-tids : goal.invariant-tids
invariant-tids l = record {
  eight : length l.bitmaps ≡ 8;
  so_far : take l.tid l.bitmaps ≡ take l.tid (named l.maps l.sets);
}
