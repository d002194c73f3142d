use Rattle.std.proofs.Common.{arith, ◌<◌, [], length, None, take, get_or, ap, length-append}
use Rattle.wl_elem.specs.Fields.{field}
use Rattle.wl_ttlm.specs.Ttlm.{mappings}
use Rattle.wl_ttlm.proofs.Writing.{mappings_more}
use Rattle.wl_ttlm.proofs.ttlm.maps_len.Goals as goal

pub maps-preserved : goal.maps-preserved
maps-preserved c =
    let inside : c.maps.map-index < length c.args.maps.now = omega arith in
    let one = field c.args.width (get_or c.args.maps.now c.maps.map-index None) in
    let before = mappings c.args.width (take c.maps.map-index c.args.maps.now) in
    let more = ap length (mappings_more c.args.width c.args.maps.now c.maps.map-index None [] inside) in
    record {
      counted = omega (arith, c.maps.invariant.counted, c.short_len-len.ensures.exact, more, length-append before one);
      short = omega (arith, c.maps.invariant.short, c.short_len-len.ensures.bound);
    }
