use Rattle.std.proofs.Common.{◌≡◌, ◌++◌, take}
use Rattle.wl_ttlm.specs.Ttlm.{mappings}
use Rattle.wl_ttlm.proofs.encode.put_maps.Given as goal

abbrev pub invariant-maps : goal.invariant-maps
invariant-maps l = l.out ≡ l.fn.out ++ mappings l.width (take l.map-index l.maps)
