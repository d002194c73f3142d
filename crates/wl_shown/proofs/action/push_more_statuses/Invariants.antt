use Rattle.std.proofs.Common.{◌≡◌, ◌++◌, take}
use Rattle.std.specs.String.{string_bytes}
use Rattle.wl_shown.specs.ActionText.{more_statuses}
use Rattle.wl_shown.proofs.action.push_more_statuses.Given as goal

abbrev pub invariant-statuses : goal.invariant-statuses
invariant-statuses l = string_bytes l.out ≡ string_bytes l.fn.out ++ more_statuses (take l.status-index l.list)
