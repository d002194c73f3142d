use Rattle.std.proofs.Common.{◌≡◌, ◌++◌, drop}
use Rattle.std.specs.String.{string_bytes}
use Rattle.wl_shown.specs.TtlmText.{map_items, sum_text}
use Rattle.wl_shown.proofs.Mappings.{rest_text}
use Rattle.wl_shown.proofs.mapping.push_maps.Given as goal

abbrev pub invariant-loop-tid : goal.invariant-loop-tid
invariant-loop-tid l = string_bytes l.out ++ rest_text l.some l.tid (drop l.tid l.maps) ≡ string_bytes l.fn.out ++ sum_text (map_items 0 l.maps)
