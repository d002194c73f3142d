use Rattle.std.proofs.Common.{◌≡◌, ◌-◌, ◌*◌, ◌≤◌, ◌++◌, length}
use Rattle.wl_action.specs.Reading.{statuses_in}
use Rattle.wl_action.proofs.decode.statuses_of.Given as goal

abbrev pub invariant-links : goal.invariant-links
invariant-links l = record {
  so_far : l.list ++ statuses_in (l.count - l._link) l.left ≡ statuses_in l.count l.octets;
  room : 3 * (l.count - l._link) ≤ length l.left;
}
