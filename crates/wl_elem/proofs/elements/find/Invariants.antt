use Rattle.wl_elem.specs.Finding.{NoneBetween}
use Rattle.wl_elem.proofs.elements.find.Given as goal

abbrev pub invariant-loop-i : goal.invariant-loop-i
invariant-loop-i l = NoneBetween l.list l.id l.ext l.from l.i
