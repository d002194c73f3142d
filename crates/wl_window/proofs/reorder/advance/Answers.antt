use Rattle.std.proofs.Common.{◌≡◌, ◌+◌, ◌-◌, ◌^◌, ℕ, max, length, sym, ap, ◌∙◌, arith}
use Rattle.wl_window.specs.Queue.{Queue, received}
use Rattle.wl_window.specs.Reordering.{Window, Moved, advanced}
use Rattle.wl_window.proofs.Moving.{due_first, rest_rising, not_due, past_rising, after_item, received_more, received_none}
use Rattle.wl_window.proofs.reorder.advance.Given.{Over}
use Rattle.wl_window.proofs.reorder.advance.Goals as goal
use Rattle.wl_window.proofs.reorder.advance.Goals.{In-Some}

step : (g : Over) (c : In-Some g) (next : ℕ) → next ≡ max c.due.start (c.in-Some.slot.number + 1) → advanced c.due.start c.due.slots.items ≡ after_item c.in-Some.slot.item (advanced next c.take_due.new.slots.items)
step g c next e = let taken = c.in-Some.ensures.taken in due_first c.due.start next c.in-Some.slot c.due.slots.items c.take_due.new.slots.items (2 ^ 32 - 1) taken.1 c.due.invariant.rising taken.0 e

pub push-requires : goal.push-requires
push-requires g c = let more = ap (λ (m : Moved g.row.T.Denot). length m.up) (step g (goal.at.push-requires g c).In-Some c.max-start.result c.max-start.ensures) in omega (arith, more, c.due.invariant.spare)

pub due-preserved : goal.due-preserved
due-preserved g c =
    let was = c.due.invariant in
    let slot = c.in-Some.slot in
    let left = c.take_due.new.slots.items in
    let moves = step g (goal.at.due-preserved g c).In-Some c.max-start.result c.max-start.ensures in
    record {
      rising = rest_rising slot c.due.slots.items left (2 ^ 32 - 1) c.in-Some.ensures.taken.1 was.rising;
      spare =
          let spare = ap (λ (q : Queue g.row.T.Denot). q.spare) c.push.ensures in
          let more = ap (λ (m : Moved g.row.T.Denot). length m.up) moves in
          omega (arith, spare, more, was.spare);
      window = sym (ap (λ (m : Moved g.row.T.Denot). m.window) moves) ∙ was.window;
      up = ap (λ (q : Queue g.row.T.Denot). received q (advanced c.max-start.result left).up) c.push.ensures ∙ received_more c.due.up slot.item (advanced c.max-start.result left).up ∙ sym (ap (λ (m : Moved g.row.T.Denot). received c.due.up m.up) moves) ∙ was.up;
      kept = c.in-Some.ensures.kept ∙ was.kept;
    }

pub returns-clause-window : goal.returns-clause-window
returns-clause-window g c =
    let was = c.due.invariant in
    let left = c.in_default.ensures.taken in
    let stays = not_due c.due.start c.due.slots.items (2 ^ 32 - 1) (past_rising c.due.start c.due.slots.items 0 (2 ^ 32 - 1) was.rising left.0) in
    let window = sym (ap (λ (m : Moved g.row.T.Denot). m.window) stays) ∙ was.window in
    (ap (λ (w : Window g.row.T.Denot). w.start) window, left.1 ∙ ap (λ (w : Window g.row.T.Denot). w.slots) window)

pub returns-clause-up : goal.returns-clause-up
returns-clause-up g c =
    let was = c.due.invariant in
    let left = c.in_default.ensures.taken in
    let stays = not_due c.due.start c.due.slots.items (2 ^ 32 - 1) (past_rising c.due.start c.due.slots.items 0 (2 ^ 32 - 1) was.rising left.0) in
    sym (received_none c.due.up) ∙ sym (ap (λ (m : Moved g.row.T.Denot). received c.due.up m.up) stays) ∙ was.up
