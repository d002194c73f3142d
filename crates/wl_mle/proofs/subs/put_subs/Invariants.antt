use Rattle.std.proofs.Common.{take}
use Rattle.std.specs.Prelude.{map}
use Rattle.wl_mle.specs.Writing.{AddsSubs}
use Rattle.wl_mle.proofs.subs.put_subs.Given as goal

abbrev pub invariant-subs : goal.invariant-subs
invariant-subs g l = AddsSubs (map g.S.Subelement.item (take l.i l.subs)) l.fn.out l.out
