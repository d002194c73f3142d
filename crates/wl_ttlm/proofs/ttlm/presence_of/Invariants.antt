use Rattle.std.proofs.Common.{◌≡◌, drop}
use Rattle.wl_ttlm.specs.Ttlm.{presence}
use Rattle.wl_ttlm.proofs.ttlm.presence_of.Given as goal

abbrev pub invariant-maps : goal.invariant-maps
invariant-maps l = l.bits ≡ presence (drop l.tid l.maps)
