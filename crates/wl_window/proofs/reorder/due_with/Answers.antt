use Rattle.std.proofs.Common.{◌+◌, ◌-◌, ◌^◌, ℕ, List, drop, length, sym, ap, ◌∙◌, arith}
use Rattle.wl_window.specs.declared.slot.Slot.{Slot}
use Rattle.wl_window.specs.Reordering.{placed, advanced}
use Rattle.wl_window.proofs.Counting.{drop_rising, leaves, Joins, joins}
use Rattle.wl_window.proofs.reorder.due_with.Given.{Over}
use Rattle.wl_window.proofs.reorder.due_with.Goals as goal
use Rattle.wl_window.proofs.reorder.due_with.Goals.{After-due_from-before}

abbrev slot_of : (g : Over) → ℕ → g.row.T.Denot → Slot g.row.T.Denot
slot_of g number item = record { number = number; item = item }

-- what goes up without the slot, and with it
both : (g : Over) (c : After-due_from-before g) (item : g.row.T.Denot) → Joins (slot_of g c.args.missing item) (advanced c.args.to c.args.slots.now.items) (advanced c.args.to (placed (slot_of g c.args.missing item) c.args.slots.now.items))
both g c item = joins (slot_of g c.args.missing item) c.args.slots.now.items c.args.to 0 (2 ^ 32 - 1) c.requires.rising c.requires.ahead c.requires.high c.requires.absent

pub returns-then-before-missing-clause-count : goal.returns-then-before-missing-clause-count
returns-then-before-missing-clause-count g c item =
    let is = both g (goal.at.returns-then-before-missing-clause-count g c).After-due_from-before item in
    let due = c.due_from-before.ensures.due in
    due.0 ∙ sym (is.short (omega (arith, due.1, c.if-before-missing.true)))

pub due_from-requires-clause-rising : goal.due_from-requires-clause-rising
due_from-requires-clause-rising g c = drop_rising c.due_from-before.result.count c.args.slots.now.items (2 ^ 32 - 1) c.requires.rising

pub returns-clause-count : goal.returns-clause-count
returns-clause-count g c item =
    let is = both g (goal.at.returns-clause-count g c).After-due_from-before item in
    let before = c.due_from-before.ensures.due in
    let behind = c.due_from.ensures.due in
    let left = (leaves c.args.slots.now.items c.args.to 0 (2 ^ 32 - 1) c.requires.rising).left in
    let same = left ∙ ap (λ (n : ℕ). drop n c.args.slots.now.items) (sym before.0) in
    let more = ap (λ (l : List (Slot g.row.T.Denot)). length (advanced (c.args.missing + 1) l).up) same in
    let all = is.long (omega (arith, before.1, c.if-before-missing.false)) in
    omega (arith, all, before.0, behind.0, more)
