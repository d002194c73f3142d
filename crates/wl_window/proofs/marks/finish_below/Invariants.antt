use Rattle.std.proofs.Common.{◌≡◌, ltb}
use Rattle.wl_window.proofs.Marking.{Finishes}
use Rattle.wl_window.proofs.marks.finish_below.Given as goal

abbrev pub invariant-below : goal.invariant-below
invariant-below l = record {
  so_far : Finishes (λ k. ltb k l.index) l.fn.marks.items l.marks.items l.count;
  room : l.marks.cap ≡ l.fn.marks.cap;
}
