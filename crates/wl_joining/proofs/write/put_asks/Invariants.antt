use Rattle.wl_joining.specs.Joining.{is_other, ask_profile}
use Rattle.wl_joining.proofs.Writing.{IsWrittenTo}
use Rattle.wl_joining.proofs.write.put_asks.Given as goal

abbrev pub invariant-links : goal.invariant-links
invariant-links l = IsWrittenTo (is_other l.ask.macs l.ask.on) (ask_profile l.ask.macs) l.fn.out l.out l.id
