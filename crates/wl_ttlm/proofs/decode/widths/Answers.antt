use Rattle.wl_elem.specs.Bits.{has_bit}
use Rattle.wl_ttlm.specs.Ttlm.{map_width}
use Rattle.wl_ttlm.proofs.Maps.{map_widths_are}
use Rattle.wl_ttlm.proofs.decode.widths.Goals as goal

pub returns : goal.returns
returns c = cc (map_widths_are c.args.present (map_width (has_bit c.args.control 32)))
