use Rattle.std.proofs.Common.{ap, ◌∙◌, arith}
use Rattle.wl_window.specs.Originating.{book_at}
use Rattle.wl_window.proofs.Marking.{book_gap, book_set}
use Rattle.wl_window.proofs.marks.book.Goals as goal

pub gap-preserved : goal.gap-preserved
gap-preserved c =
    let len = c.gap.marks.ok.0 in
    record {
      marks = ap (book_at c.args.index) c.push_back_reserved.ensures.items ∙ book_gap c.args.index c.gap.marks.items (omega (arith, len, c.len.ensures, c.gap-test.true)) ∙ c.gap.invariant.marks;
      room = c.push_back_reserved.ensures.capacity ∙ c.gap.invariant.room;
    }

pub returns-clause-marks : goal.returns-clause-marks
returns-clause-marks c = let len = c.gap.marks.ok.0 in book_set c.args.index c.gap.marks.items (omega (arith, len, c.len.ensures, c.gap-test.false)) ∙ c.gap.invariant.marks
