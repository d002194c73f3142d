use Rattle.std.proofs.Common.{◌≡◌, ℕ, List, [], ◌∷◌, ◌++◌, length, arith, length-append, sym, ap, subst, ◌∙◌}
use Rattle.wl_history.specs.EndState.{LaneState}
use Rattle.std.specs.List.{AllByRecursion}
use Rattle.std.specs.Vec.{vec_capacity}
use Rattle.wl_end.specs.Parts.{IsShort, IsLaneKept}
use Rattle.wl_end.proofs.Places.{all_front}
use Rattle.wl_end.proofs.lane_parts.LaneParts.take_back.Goals as goal

pub invariant_of-self : goal.invariant_of-self
invariant_of-self c =
    let (before, last, is) = c.requires in
    let was : c.self.inside.queue ≡ before ++ last ∷ [] = ap (λ (l : LaneState). l.queue) c.self.view_is ∙ is in
    let kept : IsLaneKept before c.self.inside.reorder c.self.inside.ups.items (vec_capacity c.self.inside.aired) = record {
      short = all_front IsShort before last (subst (λ (q : List (List ℕ)). AllByRecursion IsShort q) was c.self.invariant.short);
      countable = omega (arith, c.self.invariant.countable, ap (λ (q : List (List ℕ)). length q) was, length-append before (last ∷ []));
      room = c.self.invariant.room;
      drained = c.self.invariant.drained;
      markable = omega (arith, c.self.invariant.markable, ap (λ (q : List (List ℕ)). length q) was, length-append before (last ∷ []));
    } in
    subst (λ (q : List (List ℕ)). IsLaneKept q c.self.inside.reorder c.self.inside.ups.items (vec_capacity c.self.inside.aired)) (sym (c.take_back.ensures before last was)) kept
