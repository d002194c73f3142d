use Rattle.std.proofs.Common.{ℕ, ap, ◌∙◌}
use Rattle.std.specs.Prelude.{◌&&◌, ◌==◌, not}
use Rattle.wl_elem.specs.Links.{has_link}
use Rattle.wl_elem.proofs.LinkSets.{has-without}
use Rattle.wl_elem.proofs.link.LinkSet.without.Goals as goal

pub returns : goal.returns
returns c k low =
    has-without c.self.inside.bits c.link.inside.id k c.link.invariant low
    ∙ ap (λ (n : ℕ). has_link n k && not (k == c.link.inside.id)) c.self.view_is ∙ ap (λ (l : ℕ). has_link c.args.self.now k && not (k == l)) c.link.view_is
