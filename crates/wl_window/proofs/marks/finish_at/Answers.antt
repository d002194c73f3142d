use Rattle.std.proofs.Common.{◌≡◌, Option, arith, sym, ap, ◌∙◌}
use Rattle.std.specs.Prelude.{slice_get}
use Rattle.wl_window.specs.declared.mark.Mark.{Mark}
use Rattle.wl_window.specs.Originating.{open_mark}
use Rattle.wl_window.proofs.Marking.{open_within, alone_open, alone_shut}
use Rattle.wl_window.proofs.marks.finish_at.Goals as goal
use Rattle.wl_window.proofs.marks.finish_at.Goals.{After-is_open}

mark_is : (c : After-is_open) → c.is_open.result ≡ open_mark (slice_get c.args.marks.now.items c.args.index)
mark_is c = c.is_open.ensures ∙ ap (λ (m : Option Mark). open_mark m) c.mark_at.ensures

pub returns-then-not-is_open-clause-marks : goal.returns-then-not-is_open-clause-marks
returns-then-not-is_open-clause-marks c = (alone_shut c.args.index c.args.marks.now.items (sym (mark_is (goal.at.returns-then-not-is_open-clause-marks c).After-is_open) ∙ c.if-not-is_open.true)).left_is

pub returns-then-not-is_open-clause-newly : goal.returns-then-not-is_open-clause-newly
returns-then-not-is_open-clause-newly c = (alone_shut c.args.index c.args.marks.now.items (sym (mark_is (goal.at.returns-then-not-is_open-clause-newly c).After-is_open) ∙ c.if-not-is_open.true)).count_is

pub index_mut-requires : goal.index_mut-requires
index_mut-requires c = let within = open_within c.args.index c.args.marks.now.items (sym (mark_is (goal.at.index_mut-requires c).After-is_open) ∙ c.if-not-is_open.false) in let len = c.args.marks.now.ok.0 in omega (arith, within, len)

pub returns-clause-marks : goal.returns-clause-marks
returns-clause-marks c = (alone_open c.args.index c.args.marks.now.items (sym (mark_is (goal.at.returns-clause-marks c).After-is_open) ∙ c.if-not-is_open.false)).left_is

pub returns-clause-newly : goal.returns-clause-newly
returns-clause-newly c = (alone_open c.args.index c.args.marks.now.items (sym (mark_is (goal.at.returns-clause-newly c).After-is_open) ∙ c.if-not-is_open.false)).count_is
