use Rattle.std.proofs.Common.{◌≡◌, true, eqb-true, nat_eq, length}
use Rattle.std.proofs.lemmas.List.{nil_from_length}
use Rattle.std.specs.String.{string_bytes}
use Rattle.wl_shown.proofs.VerdictTexts.{one_more, ends}
use Rattle.wl_shown.proofs.check.checked_lines.Goals as goal

pub lines-preserved : goal.lines-preserved
lines-preserved c =
    one_more c.args.input.now c.lines.rest.now c.first_line.result.0.now c.first_line.result.1.now c.lines.number (string_bytes c.lines.text) (string_bytes c.push_line.new.out) c.lines.refused c.refused_with-refused.result c.in-Ok.accepted
    c.lines.invariant c.first_line.ensures.lines c.first_line.ensures.fewer c.in-Ok.ensures.judged c.refused_with-refused.ensures

pub returns-clause-judged : goal.returns-clause-judged
returns-clause-judged c =
    let none : nat_eq (length c.lines.rest.now) 0 ≡ true = cc in
    ends c.args.input.now c.lines.rest.now c.lines.number (string_bytes c.lines.text) c.lines.refused c.lines.invariant (nil_from_length c.lines.rest.now (eqb-true _ _ none))
