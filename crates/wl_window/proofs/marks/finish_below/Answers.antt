use Rattle.std.proofs.Common.{◌+◌, ltb, eqb, refl, ◌∙◌, arith}
use Rattle.wl_window.proofs.Marking.{Finishes, one_more, none_yet, counted_below, below_none, below_more}
use Rattle.wl_window.proofs.marks.finish_below.Goals as goal
use Rattle.wl_window.proofs.marks.finish_below.Goals.{After-finish_at-count}

pub below-init : goal.below-init
below-init c = record { so_far = none_yet (λ k. ltb k 0) c.args.marks.now.items below_none; room = refl }

step : (c : After-finish_at-count) → Finishes (λ k. ltb k (c.below.index + 1)) c.args.marks.now.items c.finish_at-count.new.marks.items (c.below.count + c.finish_at-count.result)
step c =
    let one : Finishes (λ k. eqb k c.below.index) c.below.marks.items c.finish_at-count.new.marks.items c.finish_at-count.result = record { left_is = c.finish_at-count.ensures.marks; count_is = c.finish_at-count.ensures.newly } in
    one_more (λ k. ltb k c.below.index) (λ k. eqb k c.below.index) (λ k. ltb k (c.below.index + 1)) c.args.marks.now.items c.below.marks.items c.finish_at-count.new.marks.items c.below.count c.finish_at-count.result c.below.invariant.so_far one (below_more c.below.index)

pub overflow_add-count : goal.overflow_add-count
overflow_add-count c =
    let limit = (counted_below (λ k. ltb k (c.below.index + 1)) c.args.marks.now.items c.finish_at-count.new.marks.items (c.below.count + c.finish_at-count.result) (step (goal.at.overflow_add-count c).After-finish_at-count)).0 in
    omega (arith, limit, c.requires)

pub below-preserved : goal.below-preserved
below-preserved c = record { so_far = step (goal.at.below-preserved c).After-finish_at-count; room = c.finish_at-count.ensures.kept ∙ c.below.invariant.room }
