use Rattle.std.proofs.Common.{◌≡◌, ◌-◌, ◌≤◌, length, take}
use Rattle.wl_elem.specs.Fields.{total}
use Rattle.wl_ttlm.specs.Ttlm.{map_widths}
use Rattle.wl_ttlm.specs.Reading.{maps_at}
use Rattle.wl_ttlm.proofs.Maps.{with_front}
use Rattle.wl_ttlm.proofs.decode.maps_of.Given as goal

abbrev pub invariant-maps : goal.invariant-maps
invariant-maps l = record {
  counted : length l.map-items ≡ 8;
  whole : total (map_widths (8 - l.map-index) l.bits l.width) ≤ length l.left;
  so_far : with_front (take l.map-index l.map-items) (maps_at (8 - l.map-index) l.bits l.width l.left) ≡ maps_at 8 l.present l.width l.octets;
}
