use Rattle.wl_shown.specs.Line.{lines_of}
use Rattle.wl_top.proofs.OneEnding.{decode_some, check_some}
use Rattle.wl_top.proofs.laws.some_ending.Goals as goal

pub returns-clause-decode : goal.returns-clause-decode
returns-clause-decode c input = decode_some input (c.text_is_shown_or_bad.ensures (lines_of input))

pub returns-clause-check : goal.returns-clause-check
returns-clause-check c input = check_some input (c.text_is_judged_or_bad.ensures (lines_of input))
