use Rattle.std.proofs.Common.{take}
use Rattle.wl_elem.specs.ElementList.{Elems}
use Rattle.wl_elem.proofs.encode.encode_elements.Given as goal

abbrev pub invariant-loop-e : goal.invariant-loop-e
invariant-loop-e l = Elems (take l.e-index l.e-items) l.out
