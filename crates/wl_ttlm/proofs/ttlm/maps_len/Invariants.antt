use Rattle.std.proofs.Common.{◌≡◌, ◌≤◌, ◌*◌, length, take}
use Rattle.wl_ttlm.specs.Ttlm.{mappings}
use Rattle.wl_ttlm.proofs.ttlm.maps_len.Given as goal

abbrev pub invariant-maps : goal.invariant-maps
invariant-maps l = record {
  counted : l.len ≡ length (mappings l.width (take l.map-index l.maps));
  short : l.len ≤ 2 * l.map-index;
}
