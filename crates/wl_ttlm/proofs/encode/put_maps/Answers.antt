use Rattle.std.proofs.Common.{arith, ◌<◌, ◌++◌, ◌∙◌, List, ℕ, ap, length, None, get_or}
use Rattle.wl_elem.specs.Fields.{field}
use Rattle.wl_ttlm.proofs.Writing.{mappings_more}
use Rattle.wl_ttlm.proofs.encode.put_maps.Goals as goal

pub maps-preserved : goal.maps-preserved
maps-preserved c =
    let inside : c.maps.map-index < length c.args.maps.now = omega arith in
    let one = field c.args.width (get_or c.args.maps.now c.maps.map-index None) in
    c.in_ok-put_short.ensures ∙ ap (λ (x : List ℕ). x ++ one) c.maps.invariant ∙ mappings_more c.args.width c.args.maps.now c.maps.map-index None c.args.out.now inside
