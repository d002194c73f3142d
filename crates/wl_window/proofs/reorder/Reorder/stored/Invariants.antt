use Rattle.std.proofs.Common.{◌≡◌, ◌++◌}
use Rattle.std.specs.VecDeque.Iter.{deque_iter_rest}
use Rattle.wl_window.specs.Reordering.{stored_numbers}
use Rattle.wl_window.proofs.reorder.Reorder.stored.Given as goal

abbrev pub invariant-slots : goal.invariant-slots
invariant-slots g l = record {
  can : (goal.iterator-slots g).can_next l.slot-iterator;
  ends : (goal.iterator-slots g).is_finite l.slot-iterator;
  numbers : l.numbers ++ stored_numbers (deque_iter_rest l.slot-iterator) ≡ stored_numbers l.fn.self.window.slots;
}
