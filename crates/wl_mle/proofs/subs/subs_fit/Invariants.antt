use Rattle.std.proofs.Common.{take}
use Rattle.std.specs.List.{AllByRecursion}
use Rattle.wl_mle.proofs.subs.subs_fit.Given as goal

abbrev pub invariant-subs : goal.invariant-subs
invariant-subs g l = AllByRecursion g.S.Subelement.IsSub (take l.i l.subs)
