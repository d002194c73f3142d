use Rattle.std.proofs.Common.{length}
use Rattle.std.specs.String.{string_bytes}
use Rattle.wl_shown.proofs.Texts.{Continues}
use Rattle.wl_shown.proofs.decode.shown_lines.Given as goal

abbrev pub invariant-lines : goal.invariant-lines
invariant-lines l = Continues l.input l.rest l.number (string_bytes l.out)

abbrev pub decreases-lines : goal.decreases-lines
decreases-lines l = length l.rest
