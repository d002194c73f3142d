use Rattle.std.proofs.Common.{length}
use Rattle.wl_elem.proofs.Cutting.{Reads}
use Rattle.wl_elem.proofs.block.cut_items.Given as goal

abbrev pub invariant-items : goal.invariant-items
invariant-items l = Reads l.kind l.list.items l.input l.rest

abbrev pub decreases-items : goal.decreases-items
decreases-items l = length l.rest
