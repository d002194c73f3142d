use Rattle.std.proofs.Common.{take}
use Rattle.std.specs.List.{AllByRecursion}
use Rattle.wl_action.specs.Action.{IsRead}
use Rattle.wl_action.proofs.list.first_refusal.Given as goal

abbrev pub invariant-elements : goal.invariant-elements
invariant-elements l = AllByRecursion (IsRead l.code) (take l.i l.elements)
