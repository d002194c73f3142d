use Rattle.std.proofs.Common.{◌≡◌, ◌++◌, Bool, take}
use Rattle.std.specs.Prelude.{filter}
use Rattle.wl_elem.specs.Element.{ElementValue}
use Rattle.wl_inherit.specs.Marks.{TakesOthers}
use Rattle.wl_inherit.proofs.copies.put_others.Given as goal

abbrev pub invariant-elements : goal.invariant-elements
invariant-elements l = (test : ElementValue → Bool) → TakesOthers test l.from l.marks → l.list ≡ l.fn.list ++ filter test (take l.element-index l.from)
