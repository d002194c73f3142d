use Rattle.std.proofs.Common.{◌≡◌, ◌&&◌, false, not, get_or, take}
use Rattle.std.specs.Prelude.{filter}
use Rattle.wl_inherit.specs.Shrunk.{octet_values}
use Rattle.wl_inherit.proofs.identities.numbers_of.Given as goal

abbrev pub invariant-numbers : goal.invariant-numbers
invariant-numbers l = l.numbers ≡ filter (λ n. get_or l.table n false && not (get_or l.other n false)) (take l.n octet_values)
