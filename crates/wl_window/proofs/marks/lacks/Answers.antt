use Rattle.std.proofs.Common.{◌≡◌, ◌-◌, ◌+◌, ℕ, suc, Bool, ◌||◌, Some, None, drop, sym, ap, ◌∙◌, arith}
use Rattle.std.specs.Prelude.{slice_get}
use Rattle.wl_window.specs.Originating.{has_free, free_mark}
use Rattle.wl_window.proofs.Marking.{free_none, free_some}
use Rattle.wl_window.proofs.marks.lacks.Goals as goal
use Rattle.wl_window.proofs.marks.lacks.Goals.{After-is_free}

pub returns-in_default : goal.returns-in_default
returns-in_default c = let none : slice_get c.args.marks.now.items c.marks.index ≡ None = sym c.mark_at.ensures ∙ c.in_default.is in sym (free_none (c.args.count - c.marks.index) c.marks.index c.args.marks.now.items none) ∙ c.marks.invariant

step : (c : After-is_free) → (c.is_free.result || has_free (c.args.count - (c.marks.index + 1)) (drop (c.marks.index + 1) c.args.marks.now.items)) ≡ has_free c.args.count c.args.marks.now.items
step c =
    let some : slice_get c.args.marks.now.items c.marks.index ≡ Some c.in-Some.mark = sym c.mark_at.ensures ∙ c.in-Some.is in
    let left : c.args.count - c.marks.index ≡ suc (c.args.count - (c.marks.index + 1)) = omega (arith, c.marks-test.true) in
    let next : c.marks.index + 1 ≡ suc c.marks.index = omega arith in
    let rest = has_free (c.args.count - (c.marks.index + 1)) in
    ap (λ (b : Bool). b || rest (drop (c.marks.index + 1) c.args.marks.now.items)) c.is_free.ensures
    ∙ ap (λ (n : ℕ). free_mark c.in-Some.mark || rest (drop n c.args.marks.now.items)) next
    ∙ sym (free_some (c.args.count - (c.marks.index + 1)) c.marks.index c.args.marks.now.items c.in-Some.mark some)
    ∙ ap (λ (n : ℕ). has_free n (drop c.marks.index c.args.marks.now.items)) (sym left) ∙ c.marks.invariant

pub returns-then-is_free : goal.returns-then-is_free
returns-then-is_free c = ap (λ (b : Bool). b || has_free (c.args.count - (c.marks.index + 1)) (drop (c.marks.index + 1) c.args.marks.now.items)) (sym c.if-is_free.true) ∙ step (goal.at.returns-then-is_free c).After-is_free

pub marks-preserved : goal.marks-preserved
marks-preserved c = ap (λ (b : Bool). b || has_free (c.args.count - (c.marks.index + 1)) (drop (c.marks.index + 1) c.args.marks.now.items)) (sym c.if-is_free.false) ∙ step (goal.at.marks-preserved c).After-is_free
