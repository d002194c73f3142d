use Rattle.std.proofs.Common.{◌≡◌, drop}
use Rattle.wl_joining.specs.Joining.{status_in}
use Rattle.wl_joining.proofs.read.status_in.Given as goal

-- what the states that are left say is what all say
abbrev pub invariant-states : goal.invariant-states
invariant-states l = status_in (drop l.state-index l.states) l.id ≡ status_in l.states l.id
