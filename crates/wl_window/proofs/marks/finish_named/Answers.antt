use Rattle.std.proofs.Common.{◌≡◌, ◌+◌, ◌++◌, ◌∷◌, [], ℕ, List, take, get_or, eqb, refl, sym, subst, ◌∙◌, arith}
use Rattle.std.proofs.lemmas.List.{take_more}
use Rattle.wl_window.specs.Numbering.{distance}
use Rattle.wl_window.specs.Originating.{names}
use Rattle.wl_window.proofs.Marking.{Finishes, one_more, none_yet, counted_below, names_more}
use Rattle.wl_window.proofs.marks.finish_named.Goals as goal
use Rattle.wl_window.proofs.marks.finish_named.Goals.{After-finish_at-count}

pub stored-init : goal.stored-init
stored-init c = record { so_far = none_yet (names c.args.base []) c.args.marks.now.items (λ i. refl); room = refl }

step : (c : After-finish_at-count) → Finishes (names c.args.base (take (c.stored.number-index + 1) c.args.stored.now)) c.args.marks.now.items c.finish_at-count.new.marks.items (c.stored.count + c.finish_at-count.result)
step c =
    let number = get_or c.args.stored.now c.stored.number-index 0 in
    let before = take c.stored.number-index c.args.stored.now in
    let index : c.from.result ≡ distance c.args.base number = c.from.ensures ∙ c.distance_to.ensures.value in
    let one : Finishes (λ k. eqb k c.from.result) c.stored.marks.items c.finish_at-count.new.marks.items c.finish_at-count.result = record { left_is = c.finish_at-count.ensures.marks; count_is = c.finish_at-count.ensures.newly } in
    let same = subst (λ (d : ℕ). Finishes (λ k. eqb k d) c.stored.marks.items c.finish_at-count.new.marks.items c.finish_at-count.result) index one in
    let whole = one_more (names c.args.base before) (λ k. eqb k (distance c.args.base number)) (names c.args.base (before ++ number ∷ [])) c.args.marks.now.items c.stored.marks.items c.finish_at-count.new.marks.items c.stored.count c.finish_at-count.result c.stored.invariant.so_far same (names_more c.args.base before number) in
    subst (λ (l : List ℕ). Finishes (names c.args.base l) c.args.marks.now.items c.finish_at-count.new.marks.items (c.stored.count + c.finish_at-count.result)) (sym (take_more c.args.stored.now c.stored.number-index 0 c.stored-test.true)) whole

pub overflow_add-count : goal.overflow_add-count
overflow_add-count c =
    let limit = (counted_below (names c.args.base (take (c.stored.number-index + 1) c.args.stored.now)) c.args.marks.now.items c.finish_at-count.new.marks.items (c.stored.count + c.finish_at-count.result) (step (goal.at.overflow_add-count c).After-finish_at-count)).0 in
    omega (arith, limit, c.requires)

pub stored-preserved : goal.stored-preserved
stored-preserved c = record { so_far = step (goal.at.stored-preserved c).After-finish_at-count; room = c.finish_at-count.ensures.kept ∙ c.stored.invariant.room }
