use Rattle.wl_assoc.proofs.Entries.{IsReadTo}
use Rattle.wl_assoc.proofs.profiles.entries_in.Given as goal

abbrev pub invariant-profiles : goal.invariant-profiles
invariant-profiles l = IsReadTo l.response l.outer l.subs l.i l.entries.items l.seen
