use Rattle.std.proofs.Common.{length}
use Rattle.wl_elem.proofs.Decoding.{ReadsElements}
use Rattle.wl_elem.proofs.decode.decode_elements.Given as goal

abbrev pub invariant-elements : goal.invariant-elements
invariant-elements l = ReadsElements l.list l.input l.rest

abbrev pub decreases-elements : goal.decreases-elements
decreases-elements l = length l.rest
