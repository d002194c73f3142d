use Rattle.std.proofs.Common.{◌≡◌, ◌+◌, ◌-◌, ◌^◌, List, [], ◌∷◌, length, drop, sym, ap, subst, ◌∙◌, arith}
use Rattle.std.proofs.lemmas.List.{drop_more, drop_all}
use Rattle.wl_window.specs.declared.slot.Slot.{Slot}
use Rattle.wl_window.specs.Reordering.{Moved, IsRising, advanced}
use Rattle.wl_window.proofs.Moving.{due_first, rest_rising, not_due, past_rising, still}
use Rattle.wl_window.proofs.reorder.due_from.Given.{Over}
use Rattle.wl_window.proofs.reorder.due_from.Goals as goal
use Rattle.wl_window.proofs.reorder.due_from.Goals.{At-due, After-index}

-- the slots from the index on begin with the one that is there
begins : (g : Over) (c : After-index g) → drop c.due.index c.args.slots.now.items ≡ c.index.result.now ∷ drop (c.due.index + 1) c.args.slots.now.items
begins g c =
    let len = c.args.slots.now.ok.0 in
    drop_more c.args.slots.now.items c.due.index c.index.result.now (omega (arith, len, c.due-test.true, c.len-index-end.ensures))
    ∙ ap (λ (slot : Slot g.row.T.Denot). slot ∷ drop (c.due.index + 1) c.args.slots.now.items) (sym c.index.ensures)

pub returns-then-number-start-clause-due : goal.returns-then-number-start-clause-due
returns-then-number-start-clause-due g c =
    let was = c.due.invariant in
    let left = drop c.due.index c.args.slots.now.items in
    let first = begins g (goal.at.returns-then-number-start-clause-due g c).After-index in
    let past : IsRising (c.due.start + 1) (2 ^ 32 - 1) left =
    subst (λ (l : List (Slot g.row.T.Denot)). IsRising (c.due.start + 1) (2 ^ 32 - 1) l) (sym first)
    (past_rising c.due.start (c.index.result.now ∷ drop (c.due.index + 1) c.args.slots.now.items) 0 (2 ^ 32 - 1) (subst (λ (l : List (Slot g.row.T.Denot)). IsRising 0 (2 ^ 32 - 1) l) first was.rising) c.if-number-start.true) in
    let stays : advanced c.due.start left ≡ still c.due.start left = not_due c.due.start left (2 ^ 32 - 1) past in
    let none = ap (λ (m : Moved g.row.T.Denot). length m.up) stays in
    (omega (arith, none, was.count), sym (ap (λ (m : Moved g.row.T.Denot). m.window.start) stays) ∙ was.end)

pub due-preserved : goal.due-preserved
due-preserved g c =
    let was = c.due.invariant in
    let slot = c.index.result.now in
    let slots = drop c.due.index c.args.slots.now.items in
    let left = drop (c.due.index + 1) c.args.slots.now.items in
    let first = begins g (goal.at.due-preserved g c).After-index in
    let moves = due_first c.due.start c.max-start.result slot slots left (2 ^ 32 - 1) first was.rising c.if-number-start.false c.max-start.ensures in
    let more = ap (λ (m : Moved g.row.T.Denot). length m.up) moves in
    record {
      rising = rest_rising slot slots left (2 ^ 32 - 1) first was.rising;
      count = omega (arith, more, was.count, c.due.auto.index);
      end = sym (ap (λ (m : Moved g.row.T.Denot). m.window.start) moves) ∙ was.end;
    }

pub returns-clause-due : goal.returns-clause-due
returns-clause-due g c =
    let was = c.due.invariant in
    let len = c.args.slots.now.ok.0 in
    let all : c.due.index ≡ c.len.result = omega (arith, c.due.auto.index-end, c.due-test.false, c.len-index-end.ensures, c.len.ensures, c.requires.within) in
    let nothing : drop c.due.index c.args.slots.now.items ≡ [] = drop_all c.due.index c.args.slots.now.items (omega (arith, len, all, c.len.ensures)) in
    let stays = ap (advanced c.due.start) nothing ∙ not_due c.due.start [] (2 ^ 32 - 1) tt in
    let none = ap (λ (m : Moved g.row.T.Denot). length m.up) stays in
    (omega (arith, none, was.count, all), sym (ap (λ (m : Moved g.row.T.Denot). m.window.start) stays) ∙ was.end)
