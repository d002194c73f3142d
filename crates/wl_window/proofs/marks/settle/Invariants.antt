use Rattle.std.proofs.Common.{◌≡◌, ◌+◌, ℕ, length}
use Rattle.wl_window.specs.Originating.{settled}
use Rattle.wl_window.proofs.marks.settle.Given as goal

abbrev pub invariant-done : goal.invariant-done
invariant-done l = record {
  settled : (granted : ℕ) → settled granted l.first l.marks.items ≡ settled granted l.base l.fn.marks.items;
  total : l.first + length l.marks.items ≡ l.base + length l.fn.marks.items;
  room : l.marks.cap ≡ l.fn.marks.cap;
}

abbrev pub decreases-done : goal.decreases-done
decreases-done l = length l.marks.items
