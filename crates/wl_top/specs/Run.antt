-- A run of the program: how it ends, and why. `source` and `sink` are what is seen of these over the run.
use Rattle.std.specs.Prelude.{◌≡◌, ◌≢◌, ℕ, ◌+◌, ◌≤◌, ◌⊎◌, List, [], ◌∷◌, length, Option, Some, None, codes, Err}
use Rattle.wl_io.specs.Faults.{Rose}
use Rattle.wl_io.specs.Seen.{Seen, IsUnharmed, IsUntouched}
use Rattle.wl_io.specs.Source.{HandsSome}
use Rattle.wl_io.specs.Reading.{AreAll, IsTooLong, read_limit}
use Rattle.wl_io.specs.Writing.{IsWritten, IsWriteFault}
use Rattle.wl_io.specs.declared.read.ReadFault.{ReadFault}
use Rattle.wl_io.specs.declared.read.ReadFault.TheVariants.{Failed, TooLong as LongInput, Memory as NoMemory}
use Rattle.wl_frame.specs.Sealing.{Sealing}
use Rattle.wl_history.specs.declared.step.Journal.{Journal}
use Rattle.wl_scene.specs.Scene.{SceneOf}
use Rattle.wl_top.specs.declared.ending.Outcome.{Outcome}
use Rattle.wl_top.specs.declared.ending.Ending.{Ending}
use Rattle.wl_top.specs.declared.ending.Ending.TheVariants.{Done, Usage, Refused, ReadFault as EndsReadFault, WriteFault, Forged, CheckFailed, TooLong, Memory}
use Rattle.wl_top.specs.declared.run.Task.{Task}
use Rattle.wl_top.specs.declared.run.Task.TheVariants.{Decode, Check, Simulate}
use Rattle.wl_shown.specs.Line.{lines_of}
use Rattle.wl_shown.specs.Decoded.{ShownLines, IsFirstBad}
use Rattle.wl_shown.specs.Checked.{VerdictLines}
use Rattle.wl_top.specs.declared.simulate.Simulated.{Simulated}
use Rattle.wl_top.specs.declared.simulate.Simulated.TheVariants as simulated
use Rattle.wl_top.specs.Simulated.{IsHalf, IsWhole}

-- the word of a command
abbrev pub task_word : Task → List ℕ
task_word Decode = codes "decode"
task_word Check = codes "check"
task_word Simulate = codes "run"

-- the words are those of the command
abbrev pub IsTask : List (List ℕ) → Task → Type 0
IsTask words task = words ≡ task_word task ∷ []

-- status, place and journal of an ending
abbrev pub outcome_of : Ending → Option Journal → Outcome
outcome_of Done journal = record { status = 0; place = 0; journal = journal }
outcome_of Usage journal = record { status = 1; place = 0; journal = journal }
outcome_of (Refused place) journal = record { status = 2; place = place; journal = journal }
outcome_of EndsReadFault journal = record { status = 3; place = 0; journal = journal }
outcome_of (WriteFault taken) journal = record { status = 4; place = taken; journal = journal }
outcome_of (Forged count) journal = record { status = 5; place = count; journal = journal }
outcome_of (CheckFailed line) journal = record { status = 7; place = line; journal = journal }
outcome_of (TooLong count) journal = record { status = 8; place = count; journal = journal }
outcome_of Memory journal = record { status = 9; place = 0; journal = journal }

-- the whole input was read and no read failed: this text, which is no longer than may be read
abbrev pub IsInput : Seen → List ℕ → Type 0
IsInput source text = AreAll source.bytes source.bytes' text × (length text ≤ read_limit) × IsUnharmed source

-- Why no input was read; nothing was written then, and what is left in the source is the rest behind
-- what was read. Want of memory has no cause.
abbrev pub UnreadEnds : Seen → Seen → Ending → Type 0
UnreadEnds source sink EndsReadFault = Rose source.faults source.faults' × HandsSome source.bytes source.bytes' × IsUntouched sink
UnreadEnds source sink (TooLong count) = (count ≡ read_limit + 1) × IsTooLong source.bytes source.bytes' × IsUnharmed source × IsUntouched sink
UnreadEnds source sink Memory = IsUnharmed source × HandsSome source.bytes source.bytes' × IsUntouched sink
UnreadEnds source sink other = ⊥

-- the ending that tells it
abbrev pub IsReadEnding : ReadFault → Ending → Type 0
IsReadEnding Failed ending = ending ≡ EndsReadFault
IsReadEnding (LongInput count) ending = ending ≡ TooLong count
IsReadEnding NoMemory ending = ending ≡ Memory

-- ---- decode

-- the whole input was read, and this is shown for it
abbrev pub IsShown : Seen → List ℕ → Type 0
IsShown source shown = (text : List ℕ) × IsInput source text × ShownLines (lines_of text) shown

-- how `decode` ends, and why: at a line that is no hex line, with all written, or where the sink failed
abbrev pub DecodeEnds : Seen → Seen → Ending → Type 0
DecodeEnds source sink (Refused line) = (text : List ℕ) × IsInput source text × IsFirstBad (lines_of text) line × IsUntouched sink
DecodeEnds source sink Done = (shown : List ℕ) × IsShown source shown × IsWritten sink shown
DecodeEnds source sink (WriteFault count) = (shown : List ℕ) × IsShown source shown × IsWriteFault sink shown count
DecodeEnds source sink other = UnreadEnds source sink other

-- ---- check

-- the whole input was read, and these are the verdicts on its lines, of which this is the first
-- refused
abbrev pub IsChecked : Seen → List ℕ → Option ℕ → Type 0
IsChecked source verdicts refused = (text : List ℕ) × IsInput source text × VerdictLines (lines_of text) verdicts refused

-- how `check` ends, and why
abbrev pub CheckEnds : Seen → Seen → Ending → Type 0
CheckEnds source sink (Refused line) = (text : List ℕ) × IsInput source text × IsFirstBad (lines_of text) line × IsUntouched sink
CheckEnds source sink Done = (verdicts : List ℕ) × IsChecked source verdicts None × IsWritten sink verdicts
CheckEnds source sink (CheckFailed line) = (verdicts : List ℕ) × IsChecked source verdicts (Some line) × IsWritten sink verdicts
CheckEnds source sink (WriteFault count) = (verdicts : List ℕ) × (refused : Option ℕ) × IsChecked source verdicts refused × IsWriteFault sink verdicts count
CheckEnds source sink other = UnreadEnds source sink other

-- the ending of verdicts that were written
abbrev pub verdict_ending : Option ℕ → Ending
verdict_ending None = Done
verdict_ending (Some line) = CheckFailed line

-- ---- run

-- the history of the scenario that was read, how it ended, and its texts
pub record Ran (source : Seen) (text : Sealing) (ending : Ending) (journal : Option Journal) (out : List ℕ) : Type 0 where
  pub input : List ℕ
  pub is_input : IsInput source input
  pub made : Journal
  pub journal_is : journal ≡ Some made
  pub whole : IsWhole text input ending made out

-- the steps of the scenario that was read, as far as they were made
abbrev pub HalfRan : Seen → Sealing → Option Journal → Type 0
HalfRan source text None = Unit {0}
HalfRan source text (Some journal) = (input : List ℕ) × IsInput source input × IsHalf text input journal

-- For private contracts alone: how a run ends that came so far, and what it leaves of the sink.
abbrev pub EndsAs : Seen → Simulated → Ending → Type 0
EndsAs sink (simulated.Refused place) ending = (ending ≡ Refused place) × IsUntouched sink
EndsAs sink simulated.Unmade ending = (ending ≡ Memory) × IsUntouched sink
EndsAs sink (simulated.Halted journal) ending = (ending ≡ Memory) × IsUntouched sink
EndsAs sink (simulated.Ran came journal out) ending =
    ((ending ≡ came) × IsWritten sink out) ⊎ ((count : ℕ) × (ending ≡ WriteFault count) × IsWriteFault sink out count)

-- how `run` ends, and why
abbrev pub RunEnds : Seen → Seen → Sealing → Option Journal → Ending → Type 0
RunEnds source sink text journal (Refused place) = (input : List ℕ) × IsInput source input × SceneOf input (Err place) × IsUntouched sink × (journal ≡ None)
RunEnds source sink text journal Done = (out : List ℕ) × Ran source text Done journal out × IsWritten sink out
RunEnds source sink text journal (Forged count) = (out : List ℕ) × Ran source text (Forged count) journal out × IsWritten sink out
RunEnds source sink text journal (WriteFault count) = (ending : Ending) × (out : List ℕ) × Ran source text ending journal out × IsWriteFault sink out count
RunEnds source sink text journal Memory = IsUnharmed source × HandsSome source.bytes source.bytes' × IsUntouched sink × HalfRan source text journal
RunEnds source sink text journal other = UnreadEnds source sink other × (journal ≡ None)

-- the same ending, journal and text
pub record SameRun (e e' : Ending) (j j' : Option Journal) (out out' : List ℕ) : Type 0 where
  pub ending_same : e ≡ e'
  pub journal_same : j ≡ j'
  pub text_same : out ≡ out'

-- ---- all

-- the causes of an ending, and what it leaves
abbrev pub Ends : List (List ℕ) → Seen → Seen → Sealing → Option Journal → Ending → Type 0
Ends words source sink text journal Usage = ((task : Task) → IsTask words task → ⊥) × IsUntouched source × IsUntouched sink × (journal ≡ None)
Ends words source sink text journal other =
    (IsTask words Decode × DecodeEnds source sink other × (journal ≡ None))
    ⊎ ((IsTask words Check × CheckEnds source sink other × (journal ≡ None))
    ⊎ (IsTask words Simulate × RunEnds source sink text journal other))

-- Statuses 3 and 4 come exactly where a count of faults rose: that of the source at status 3, that of the
-- sink at 4; every other status leaves both as they were.
pub record TellsFaults (source sink : Seen) (status : ℕ) : Type 0 where
  pub read : status ≡ 3 → Rose source.faults source.faults'
  pub unread : status ≢ 3 → IsUnharmed source
  pub written : status ≡ 4 → Rose sink.faults sink.faults'
  pub unwritten : status ≢ 4 → IsUnharmed sink

-- the outcome is that of an ending whose causes are there
abbrev pub IsOutcome : List (List ℕ) → Seen → Seen → Sealing → Outcome → Type 0
IsOutcome words source sink text outcome = (ending : Ending) × Ends words source sink text outcome.journal ending × (outcome ≡ outcome_of ending outcome.journal)
