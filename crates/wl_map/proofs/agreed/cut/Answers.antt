use Rattle.std.proofs.Common.{sym}
use Rattle.wl_map.proofs.Sets.{cut_default, cut_sets}
use Rattle.wl_map.proofs.agreed.cut.Goals as goal

pub returns-then-not-is_valid-clause-value : goal.returns-then-not-is_valid-clause-value
returns-then-not-is_valid-clause-value c = cut_default c.args.links c.args.bitmaps.now c.kept-mapping.result c.kept-mapping.ensures (sym c.if-not-is_valid.ensures.value)

pub returns-clause-value : goal.returns-clause-value
returns-clause-value c = cut_sets c.args.links c.args.bitmaps.now c.kept-mapping.result c.kept-mapping.ensures (sym c.if-not-is_valid.ensures.value)
