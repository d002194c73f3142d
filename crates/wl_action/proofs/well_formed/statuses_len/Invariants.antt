use Rattle.std.proofs.Common.{◌≡◌, ◌≤◌, ◌*◌, length, take}
use Rattle.std.specs.List.{AllByRecursion}
use Rattle.wl_action.specs.Action.{statuses, IsLinkStatus}
use Rattle.wl_action.proofs.well_formed.statuses_len.Given as goal

abbrev pub invariant-links : goal.invariant-links
invariant-links l = record {
  counted : l.len ≡ length (statuses (take l.s-index l.list));
  short : l.len ≤ 3 * l.s-index;
  typed : AllByRecursion IsLinkStatus (take l.s-index l.list);
}
