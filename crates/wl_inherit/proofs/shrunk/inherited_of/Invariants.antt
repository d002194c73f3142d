use Rattle.std.proofs.Common.{take}
use Rattle.wl_inherit.proofs.Inheriting.{is_same, HasSeen, HasPassed}
use Rattle.wl_inherit.proofs.shrunk.inherited_of.Given as goal

abbrev pub invariant-elements : goal.invariant-elements
invariant-elements l = record {
  seen : HasSeen (take l.element-index l.full) l.seen;
  passed : HasPassed (is_same l.outer l.full) (take l.element-index l.full) l.inherited;
}
