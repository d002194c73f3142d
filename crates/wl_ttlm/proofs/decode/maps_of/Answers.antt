use Rattle.std.proofs.Common.{arith, length, ◌∙◌, length-set}
use Rattle.wl_ttlm.specs.Reading.{maps_at}
use Rattle.wl_ttlm.proofs.Maps.{next_room, next_map, no_map_left}
use Rattle.wl_ttlm.proofs.decode.maps_of.Goals as goal

pub short_if-field-requires-clause-whole : goal.short_if-field-requires-clause-whole
short_if-field-requires-clause-whole c = omega (arith, next_room c.maps.map-index c.maps.bits c.args.width (length c.maps.left.now) c.maps-test.true c.maps.invariant.whole)

pub maps-preserved : goal.maps-preserved
maps-preserved c = record {
  counted = length-set c.maps.map-items c.maps.map-index c.short_if-field.result.0 ∙ c.maps.invariant.counted;
  whole = omega (arith, next_room c.maps.map-index c.maps.bits c.args.width (length c.maps.left.now) c.maps-test.true c.maps.invariant.whole, c.short_if-field.ensures.left);
  so_far = rw (c.short_if-field.ensures.field, c.short_if-field.ensures.after) (next_map c.maps.map-items c.maps.map-index c.maps.bits c.args.width c.maps.left.now (maps_at 8 c.args.present c.args.width c.args.octets.now) c.maps-test.true c.maps.invariant.counted c.maps.invariant.so_far);
}

pub returns : goal.returns
returns c = no_map_left c.maps.map-items c.maps.map-index c.maps.bits c.args.width c.maps.left.now (maps_at 8 c.args.present c.args.width c.args.octets.now) c.maps-test.false c.maps.invariant.counted c.maps.invariant.so_far
