use Rattle.std.proofs.Common.{ℕ, sym, subst, bit_and, eqb-true, eq-eqb}
use Rattle.wl_elem.specs.Links.{IsSubset}
use Rattle.wl_elem.proofs.LinkSets.{subset-and, and-subset}
use Rattle.wl_elem.proofs.link.LinkSet.within.Goals as goal

pub returns : goal.returns
returns c =
    let a = c.self.inside.bits in
    let b = c.other.inside.bits in (
      λ h. subst (λ (x : ℕ). IsSubset c.args.self.now x) c.other.view_is (subst (λ (x : ℕ). IsSubset x b) c.self.view_is (subset-and a b (eqb-true (bit_and a b) a h))),
      λ subset. eq-eqb (bit_and a b) a (and-subset a b c.self.invariant (subst (λ (x : ℕ). IsSubset x b) (sym c.self.view_is) (subst (λ (x : ℕ). IsSubset c.args.self.now x) (sym c.other.view_is) subset))),
    )
