use Rattle.std.proofs.Common.{◌≡◌, Bool, false, get_or, List, arith, sym, ap, ◌∙◌}
use Rattle.std.proofs.lemmas.Option.{unwrap_or-slice_get}
use Rattle.wl_history.specs.EndState.{LaneState, was_aired_at}
use Rattle.wl_end.proofs.Places.{mark_found}
use Rattle.wl_end.proofs.lane_parts.LaneParts.was_aired.Goals as goal
use Rattle.wl_end.proofs.lane_parts.LaneParts.was_aired.Goals.{After-get}

-- the mark of the position is what stands at its place
found : (c : After-get) → get_or c.deref.result.now c.args.pos false ≡ was_aired_at c.args.self.now.aired c.args.pos
found c =
    ap (λ (l : List Bool). get_or l c.args.pos false) c.deref.ensures.value
    ∙ sym (unwrap_or-slice_get c.self.inside.aired.items c.args.pos false)
    ∙ sym (mark_found c.self.inside.aired.items c.args.pos)
    ∙ ap (λ (l : LaneState). was_aired_at l.aired c.args.pos) c.self.view_is

pub returns-in-Some : goal.returns-in-Some
returns-in-Some c = c.in-Some.ensures.lookup.4 (omega arith) false ∙ found (goal.at.returns-in-Some c).After-get

pub returns-in-None : goal.returns-in-None
returns-in-None c = c.in-None.ensures.lookup.4 (omega arith) false ∙ found (goal.at.returns-in-None c).After-get
