use Rattle.std.proofs.Common.{◌≡◌, ◌-◌, ◌≤◌, length, drop}
use Rattle.wl_inherit.specs.Identity.{of_identity}
use Rattle.wl_inherit.specs.Shrunk.{same_elements}
use Rattle.wl_inherit.proofs.shrunk.has_same.Given as goal

abbrev pub invariant-pairs : goal.invariant-pairs
invariant-pairs l = record {
  within : l.from ≤ length l.list;
  rest : same_elements (of_identity l.id l.ext (drop l.from l.list)) (of_identity l.id l.ext (drop l.other_from l.other)) ≡ same_elements (of_identity l.id l.ext l.list) (of_identity l.id l.ext l.other);
}

abbrev pub decreases-pairs : goal.decreases-pairs
decreases-pairs l = length l.list - l.from
