use Rattle.std.proofs.Common.{ℕ, ap, ◌∙◌}
use Rattle.wl_history.specs.Hands.{set_hand}
use Rattle.wl_end.specs.Parts.{Held}
use Rattle.wl_end.proofs.Places.{hand_filled}
use Rattle.wl_end.proofs.hands.Hands.set.Goals as goal

pub returns : goal.returns
returns c =
    record {
      hands =
          hand_filled c.self.inside.list.items c.fill.new.list.items c.from-place.result c.args.hand c.fill.ensures.reached c.fill.ensures.items
          ∙ ap (λ (n : ℕ). set_hand n c.args.hand c.self.inside.list.items) c.from-place.ensures
          ∙ ap (λ (h : Held). set_hand c.args.thread c.args.hand h.hands) c.self.view_is;
    }
