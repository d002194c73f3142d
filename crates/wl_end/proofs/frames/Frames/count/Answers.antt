use Rattle.std.proofs.Common.{◌≡◌, ◌+◌, ◌^◌, ◌<◌, ℕ, List, suc, length, take, sym, ap, subst, arith, ◌∙◌}
use Rattle.wl_end.specs.Parts.{frame_count}
use Rattle.wl_end.proofs.Counting.{count_more, count_within}
use Rattle.wl_end.proofs.frames.Frames.count.Goals as goal
use Rattle.wl_end.proofs.frames.Frames.count.Goals.{After-len}

-- one link more is counted
step : (c : After-len) → c.links.count + c.len.result ≡ frame_count (take (suc c.links.place) c.self.inside.links)
step c = let more = count_more c.self.inside.links c.links.place c.index-links-place.result (omega (arith, c.links-test.true, c.self.invariant)) c.index-links-place.is in omega (arith, more, c.len.ensures, c.links.invariant, ap length c.index-links-place.is)

bound : (c : After-len) → c.links.count + c.len.result < 2 ^ 32
bound c =
    let limit : frame_count c.self.inside.links < 2 ^ 32 = subst (λ (f : List (List (List ℕ))). frame_count f < 2 ^ 32) (sym c.self.view_is) c.requires in
    omega (arith, step c, count_within c.self.inside.links (suc c.links.place))

pub overflow_cast-count : goal.overflow_cast-count
overflow_cast-count c = omega (arith, bound (goal.at.overflow_cast-count c).After-len)

pub overflow_add-count : goal.overflow_add-count
overflow_add-count c = omega (arith, bound (goal.at.overflow_add-count c).After-len)

pub links-preserved : goal.links-preserved
links-preserved c =
    let next : suc c.links.place ≡ c.links.place + 1 = omega arith in
    step (goal.at.links-preserved c).After-len ∙ ap (λ (n : ℕ). frame_count (take n c.self.inside.links)) next
