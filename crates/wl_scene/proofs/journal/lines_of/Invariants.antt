use Rattle.std.proofs.Common.{◌≡◌, reverse, take}
use Rattle.std.specs.String.{string_bytes}
use Rattle.wl_scene.specs.Lines.{journal_lines}
use Rattle.wl_scene.proofs.journal.lines_of.Given as goal

abbrev pub invariant-steps : goal.invariant-steps
invariant-steps l = string_bytes l.out ≡ journal_lines (reverse (take l.step-index l.steps))
