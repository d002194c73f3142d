use Rattle.std.proofs.Common.{◌≤◌, ◌%◌, ℕ, List, [], ◌∷◌, ◌++◌, length, sym, ap, ◌∙◌, append_assoc, length-append, arith}
use Rattle.std.proofs.lemmas.List.{append-nil, nil_from_length}
use Rattle.std.specs.VecDeque.Iter.{deque_iter_rest}
use Rattle.wl_window.specs.declared.slot.Slot.{Slot}
use Rattle.wl_window.specs.Reordering.{Store, stored_numbers}
use Rattle.wl_window.proofs.Arriving.{stored_length}
use Rattle.wl_window.proofs.reorder.Reorder.stored.Goals as goal

pub slots-init : goal.slots-init
slots-init g c =
    let all = ap deque_iter_rest c.into_iter-slot-iterator.ensures.into_iter_gives ∙ c.iter-slot-items.ensures.rest in
    let same = ap (λ (s : Store g.row.T.Denot). stored_numbers s.window.slots) c.self.view_is in
    record { can = tt; ends = tt; numbers = ap (λ (l : List ℕ). l ++ stored_numbers (deque_iter_rest c.into_iter-slot-iterator.result)) c.new-numbers.ensures ∙ ap (λ (l : List (Slot g.row.T.Denot)). stored_numbers l) all ∙ same }

pub slots-preserved : goal.slots-preserved
slots-preserved g c =
    let number = c.in-Some.slot.now.number % 4096 in
    let rest = stored_numbers (deque_iter_rest c.next.new.self) in
    let step = ap (λ (l : List (Slot g.row.T.Denot)). c.slots.numbers ++ stored_numbers l) c.in-Some.ensures.steps in
    record { can = tt; ends = tt; numbers = ap (λ (l : List ℕ). l ++ rest) c.push.ensures ∙ append_assoc c.slots.numbers (number ∷ []) rest ∙ sym step ∙ c.slots.invariant.numbers }

pub push-requires-clause-room : goal.push-requires-clause-room
push-requires-clause-room g c =
    let held = c.self.invariant.0.bounded in
    let limit : c.self.inside.room ≤ 1024 = c.self.invariant.0.room_limit in
    let same = ap (λ (s : Store g.row.T.Denot). length s.window.slots) c.self.view_is in
    let all = stored_length c.args.self.now.window.slots in
    let rest = deque_iter_rest c.slots.slot-iterator in
    let some = ap (λ (l : List (Slot g.row.T.Denot)). length l) c.in-Some.ensures.steps in
    let sum = ap (λ (l : List ℕ). length l) c.slots.invariant.numbers in
    omega (arith, held, limit, same, all, sum, some, length-append c.slots.numbers (stored_numbers rest), stored_length rest)

pub returns : goal.returns
returns g c =
    let none = nil_from_length (deque_iter_rest c.slots.slot-iterator) c.in-None.ensures.steps.0 in
    sym (append-nil c.slots.numbers) ∙ ap (λ (l : List (Slot g.row.T.Denot)). c.slots.numbers ++ stored_numbers l) (sym none) ∙ c.slots.invariant.numbers
