use Rattle.std.proofs.Common.{◌≡◌, drop}
use Rattle.wl_joining.specs.Joining.{mac_in}
use Rattle.wl_joining.proofs.read.mac_in.Given as goal

-- what the profiles that are left say is what all say
abbrev pub invariant-asks : goal.invariant-asks
invariant-asks l = mac_in (drop l.ask-index l.asks) l.id ≡ mac_in l.asks l.id
