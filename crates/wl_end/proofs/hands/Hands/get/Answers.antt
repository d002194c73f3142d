use Rattle.std.proofs.Common.{◌≡◌, ℕ, get_or, List, arith, sym, ap, ◌∙◌}
use Rattle.std.proofs.lemmas.Option.{unwrap_or-slice_get}
use Rattle.wl_history.specs.declared.hand.Hand.{Hand}
use Rattle.wl_history.specs.declared.hand.Hand.TheVariants.{Empty}
use Rattle.wl_history.specs.Hands.{hand_of}
use Rattle.wl_end.specs.Parts.{Held}
use Rattle.wl_end.proofs.Places.{hand_found}
use Rattle.wl_end.proofs.hands.Hands.get.Goals as goal
use Rattle.wl_end.proofs.hands.Hands.get.Goals.{After-get}

-- what the thread holds is what stands at its place
found : (c : After-get) → get_or c.deref.result.now c.from.result Empty ≡ hand_of c.args.self.now.hands c.args.thread
found c =
    ap (λ (n : ℕ). get_or c.deref.result.now n Empty) c.from.ensures
    ∙ ap (λ (l : List Hand). get_or l c.args.thread Empty) c.deref.ensures.value
    ∙ sym (unwrap_or-slice_get c.self.inside.list.items c.args.thread Empty)
    ∙ sym (hand_found c.self.inside.list.items c.args.thread)
    ∙ ap (λ (h : Held). hand_of h.hands c.args.thread) c.self.view_is

pub returns-in-Some : goal.returns-in-Some
returns-in-Some c = c.in-Some.ensures.lookup.4 (omega arith) Empty ∙ found (goal.at.returns-in-Some c).After-get

pub returns-in-None : goal.returns-in-None
returns-in-None c = c.in-None.ensures.lookup.4 (omega arith) Empty ∙ found (goal.at.returns-in-None c).After-get
