use Rattle.std.proofs.Common.{◌≡◌, ◌<◌, ℕ, false, arith, length, set, subst, sym, ap, ◌∙◌}
use Rattle.wl_history.specs.Hands.{hand_of, set_hand}
use Rattle.wl_history.specs.Answers.{is_empty}
use Rattle.wl_end.specs.Parts.{Held}
use Rattle.wl_end.proofs.Places.{held_within, hand_set_within}
use Rattle.wl_end.proofs.hands.Hands.replace.Goals as goal
use Rattle.wl_end.proofs.hands.Hands.replace.Goals.{After-from}

within : (c : After-from) → c.args.thread < length c.self.inside.list.items
within c = held_within c.self.inside.list.items c.args.thread (subst (λ (h : Held). is_empty (hand_of h.hands c.args.thread) ≡ false) (sym c.self.view_is) c.requires)

pub index_mut-requires : goal.index_mut-requires
index_mut-requires c = let ok = c.self.inside.list.ok.0 in omega (arith, within (goal.at.index_mut-requires c).After-from, ok, c.from.ensures)

pub returns : goal.returns
returns c =
    record {
      hands =
          ap (λ (n : ℕ). set c.self.inside.list.items n c.args.hand) c.from.ensures
          ∙ hand_set_within c.self.inside.list.items c.args.thread c.args.hand (within (goal.at.returns c).After-from)
          ∙ ap (λ (h : Held). set_hand c.args.thread c.args.hand h.hands) c.self.view_is;
    }
