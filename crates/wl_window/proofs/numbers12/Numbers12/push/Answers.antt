use Rattle.std.proofs.Common.{◌<◌, ℕ, List, length, ap, arith}
use Rattle.wl_window.specs.declared.numbers12.Numbers12.TheInside.{Inside}
use Rattle.wl_window.proofs.InPlace.{pushed}
use Rattle.wl_window.proofs.numbers12.Numbers12.push.Goals as goal

pub invariant_of-self : goal.invariant_of-self
invariant_of-self c =
    let len = ap (λ (l : Inside). l.len) c.self.invariant.whole in
    let same = ap (λ (l : List ℕ). length l) c.self.view_is in
    let lt : c.self.inside.len < 1024 = omega (arith, len, same, c.requires.room) in
    rw c.from.ensures (pushed c.self.inside c.args.number c.self.invariant lt c.requires.short)
