use Rattle.std.proofs.Common.{◌≡◌, take, drop}
use Rattle.std.specs.Prelude.{map}
use Rattle.wl_mle.specs.MultiLink.{subs_refusal}
use Rattle.wl_mle.proofs.subs.read_subs.Given as goal

abbrev pub invariant-subs : goal.invariant-subs
invariant-subs g l = record {
  so_far : subs_refusal g.S.Subelement.slots l.i (drop l.i l.list) ≡ subs_refusal g.S.Subelement.slots 0 l.list;
  made : l.subs ≡ map g.S.Subelement.at (take l.i l.list);
}
