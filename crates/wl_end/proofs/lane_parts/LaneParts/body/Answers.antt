use Rattle.std.proofs.Common.{◌≡◌, ℕ, List, [], Option, arith, sym, ap, subst, ◌∙◌}
use Rattle.std.specs.Prelude.{unwrap_or, option_copied}
use Rattle.wl_history.specs.Words.{body_at}
use Rattle.wl_history.specs.EndState.{LaneState}
use Rattle.wl_end.specs.Parts.{IsShort}
use Rattle.wl_end.proofs.Places.{body_found, body_all}
use Rattle.wl_end.proofs.lane_parts.LaneParts.body.Goals as goal
use Rattle.wl_end.proofs.lane_parts.LaneParts.body.Goals.{After-get}

-- the body is what is found at the position, or nothing
found : (c : After-get) → unwrap_or (option_copied c.get.result) [] ≡ body_at c.args.self.now.queue c.args.pos
found c =
    ap (λ (o : Option (List ℕ)). unwrap_or o []) c.get.ensures
    ∙ sym (body_found c.self.inside.queue c.args.pos)
    ∙ ap (λ (l : LaneState). body_at l.queue c.args.pos) c.self.view_is

short : (c : After-get) → IsShort (unwrap_or (option_copied c.get.result) [])
short c =
    let none : IsShort [] = omega arith in
    let at : IsShort (body_at c.self.inside.queue c.args.pos) = body_all IsShort c.self.inside.queue c.args.pos c.self.invariant.short none in
    subst IsShort (body_found c.self.inside.queue c.args.pos ∙ sym (ap (λ (o : Option (List ℕ)). unwrap_or o []) c.get.ensures)) at

pub returns-in-Some-clause-value : goal.returns-in-Some-clause-value
returns-in-Some-clause-value c = let all = goal.at.returns-in-Some-clause-value c in ap (λ o. unwrap_or (option_copied o) []) (sym c.in-Some.is) ∙ found all.After-get

pub returns-in-Some-clause-short : goal.returns-in-Some-clause-short
returns-in-Some-clause-short c = let all = goal.at.returns-in-Some-clause-short c in subst (λ o. IsShort (unwrap_or (option_copied o) [])) c.in-Some.is (short all.After-get)

pub returns-in-None-clause-value : goal.returns-in-None-clause-value
returns-in-None-clause-value c = let all = goal.at.returns-in-None-clause-value c in ap (λ o. unwrap_or (option_copied o) []) (sym c.in-None.is) ∙ found all.After-get
