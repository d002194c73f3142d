use Rattle.std.proofs.Common.{length}
use Rattle.std.specs.String.{string_bytes}
use Rattle.wl_shown.proofs.VerdictTexts.{Continues}
use Rattle.wl_shown.proofs.check.checked_lines.Given as goal

abbrev pub invariant-lines : goal.invariant-lines
invariant-lines l = Continues l.input l.rest l.number (string_bytes l.text) l.refused

abbrev pub decreases-lines : goal.decreases-lines
decreases-lines l = length l.rest
