use Rattle.std.proofs.Common.{◌≡◌, ◌++◌, take}
use Rattle.wl_action.specs.Action.{statuses}
use Rattle.wl_action.proofs.encode.put_statuses.Given as goal

abbrev pub invariant-links : goal.invariant-links
invariant-links l = l.out ≡ l.fn.out ++ statuses (take l.status-index l.list)
