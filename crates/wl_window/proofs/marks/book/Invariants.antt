use Rattle.std.proofs.Common.{◌≡◌, ◌+◌, ◌-◌, length}
use Rattle.wl_window.specs.Originating.{book_at}
use Rattle.wl_window.proofs.marks.book.Given as goal

abbrev pub invariant-gap : goal.invariant-gap
invariant-gap l = record {
  marks : book_at l.index l.marks.items ≡ book_at l.index l.fn.marks.items;
  room : l.marks.cap ≡ l.fn.marks.cap;
}

abbrev pub decreases-gap : goal.decreases-gap
decreases-gap l = l.index + 1 - length l.marks.items
