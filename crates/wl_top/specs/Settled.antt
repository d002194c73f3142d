-- What an input comes to: how a run over it ends where no read and no write fails and there is memory.
use Rattle.std.specs.Prelude.{◌≡◌, ℕ, ◌+◌, ◌≤◌, ◌<◌, List, length, Some, None, Err}
use Rattle.wl_io.specs.Seen.{Seen}
use Rattle.wl_io.specs.Reading.{read_limit}
use Rattle.wl_frame.specs.Sealing.{Sealing}
use Rattle.wl_history.specs.declared.step.Journal.{Journal}
use Rattle.wl_scene.specs.Scene.{SceneOf}
use Rattle.wl_shown.specs.Line.{lines_of}
use Rattle.wl_shown.specs.Decoded.{ShownLines, IsFirstBad}
use Rattle.wl_shown.specs.Checked.{VerdictLines}
use Rattle.wl_top.specs.declared.ending.Ending.{Ending}
use Rattle.wl_top.specs.declared.ending.Ending.TheVariants.{Done, Refused, ReadFault, WriteFault, Forged, CheckFailed, TooLong, Memory}
use Rattle.wl_top.specs.Simulated.{IsWhole}

-- no fault and no want of memory broke the run off
abbrev pub IsSettled : Ending → Type 0
IsSettled ReadFault = ⊥
IsSettled (WriteFault taken) = ⊥
IsSettled Memory = ⊥
IsSettled other = Unit {0}

-- a source that tells these bytes before a call and those after it, and counts no fault
abbrev pub told_source : List ℕ → List ℕ → ℕ → Seen
told_source told rest count = record { bytes = Some told; bytes' = Some rest; faults = count; faults' = count }

-- what `decode` comes to
abbrev pub DecodesTo : List ℕ → Ending → Type 0
DecodesTo input Done = (shown : List ℕ) × (length input ≤ read_limit) × ShownLines (lines_of input) shown
DecodesTo input (Refused line) = (length input ≤ read_limit) × IsFirstBad (lines_of input) line
DecodesTo input (TooLong count) = (read_limit < length input) × (count ≡ read_limit + 1)
DecodesTo input other = ⊥

-- what `check` comes to
abbrev pub ChecksTo : List ℕ → Ending → Type 0
ChecksTo input Done = (verdicts : List ℕ) × (length input ≤ read_limit) × VerdictLines (lines_of input) verdicts None
ChecksTo input (CheckFailed line) = (verdicts : List ℕ) × (length input ≤ read_limit) × VerdictLines (lines_of input) verdicts (Some line)
ChecksTo input (Refused line) = (length input ≤ read_limit) × IsFirstBad (lines_of input) line
ChecksTo input (TooLong count) = (read_limit < length input) × (count ≡ read_limit + 1)
ChecksTo input other = ⊥

-- what `run` comes to, with this meaning of the sealer
abbrev pub RunsTo : Sealing → List ℕ → Ending → Type 0
RunsTo text input Done = (journal : Journal) × (out : List ℕ) × (length input ≤ read_limit) × IsWhole text input Done journal out
RunsTo text input (Forged count) = (journal : Journal) × (out : List ℕ) × (length input ≤ read_limit) × IsWhole text input (Forged count) journal out
RunsTo text input (Refused place) = (length input ≤ read_limit) × SceneOf input (Err place)
RunsTo text input (TooLong count) = (read_limit < length input) × (count ≡ read_limit + 1)
RunsTo text input other = ⊥
