use Rattle.std.proofs.Common.{length}
use Rattle.wl_elem.proofs.Pieces.{Writes}
use Rattle.wl_elem.proofs.put.put_fragments.Given as goal

abbrev pub invariant-fragments : goal.invariant-fragments
invariant-fragments l = Writes l.kind l.octets l.rest l.fn.out l.out

abbrev pub decreases-fragments : goal.decreases-fragments
decreases-fragments l = length l.rest
