use Rattle.std.proofs.Common.{List, sym, ap, ◌∙◌}
use Rattle.wl_window.specs.declared.mark.Mark.{Mark}
use Rattle.wl_window.specs.Originating.{Sending}
use Rattle.wl_window.proofs.Marking.{settled_stays}
use Rattle.wl_window.proofs.marks.settle.Goals as goal

pub returns-clause-settled : goal.returns-clause-settled
returns-clause-settled c granted =
    let left = c.done-test.ensures.taken in
    let made = λ (marks : List Mark). let s : Sending = record { granted = granted; base = c.done.first; marks = marks } in s in
    sym (c.done.invariant.settled granted) ∙ settled_stays granted c.done.first c.done.marks.items left.0 ∙ ap made (sym left.1)
