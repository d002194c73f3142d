use Rattle.std.proofs.Common.{ℕ, ap, ◌∙◌, bit_or}
use Rattle.std.specs.Prelude.{◌||◌, ◌==◌}
use Rattle.std.proofs.lemmas.Nat.{or_lt}
use Rattle.wl_elem.specs.Links.{has_link, set_with}
use Rattle.wl_elem.proofs.LinkSets.{mask, has-with, mask_is, mask_small}
use Rattle.wl_elem.proofs.link.LinkSet.with.Goals as goal

pub invariant_of-result : goal.invariant_of-result
invariant_of-result c = or_lt 15 c.self.inside.bits (mask c.link.inside.id) c.self.invariant (mask_small c.link.inside.id c.link.invariant)

pub returns-clause-value : goal.returns-clause-value
returns-clause-value c = ap (bit_or c.self.inside.bits) (mask_is c.link.inside.id c.link.invariant) ∙ ap (λ (n : ℕ). set_with n c.link.inside.id) c.self.view_is ∙ ap (set_with c.args.self.now) c.link.view_is

pub returns-clause-has : goal.returns-clause-has
returns-clause-has c k low =
    has-with c.self.inside.bits c.link.inside.id k c.link.invariant
    ∙ ap (λ (n : ℕ). has_link n k || k == c.link.inside.id) c.self.view_is ∙ ap (λ (l : ℕ). has_link c.args.self.now k || k == l) c.link.view_is
