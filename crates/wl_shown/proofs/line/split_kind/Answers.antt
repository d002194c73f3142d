use Rattle.wl_shown.proofs.Lines.{only_by_word, none_by_word}
use Rattle.wl_shown.proofs.line.split_kind.Goals as goal

pub returns-in-Some-kind_of-clause-only : goal.returns-in-Some-kind_of-clause-only
returns-in-Some-kind_of-clause-only c = only_by_word c.args.line.now c.in-Some.word.now c.in-Some.digits.now c.in-Some-kind_of.kind c.in-Some.ensures.found c.in-Some-kind_of.ensures.found

pub returns-in-None-kind_of-clause-none : goal.returns-in-None-kind_of-clause-none
returns-in-None-kind_of-clause-none c none = none_by_word c.args.line.now c.in-Some.word.now c.in-Some.digits.now c.in-Some.ensures.found (c.in-None-kind_of.ensures.none none)
