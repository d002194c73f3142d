use Rattle.std.proofs.Common.{◌≡◌, take}
use Rattle.wl_window.specs.Originating.{names}
use Rattle.wl_window.proofs.Marking.{Finishes}
use Rattle.wl_window.proofs.marks.finish_named.Given as goal

abbrev pub invariant-stored : goal.invariant-stored
invariant-stored l = record {
  so_far : Finishes (names l.base (take l.number-index l.stored)) l.fn.marks.items l.marks.items l.count;
  room : l.marks.cap ≡ l.fn.marks.cap;
}
