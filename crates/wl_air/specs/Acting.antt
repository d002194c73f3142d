-- What a command needs, and why it isn't done.
use Rattle.std.specs.Prelude.{◌≡◌, true, ℕ, ◌<◌, ◌≤◌, List, length, Option}
use Rattle.wl_elem.specs.Element.{msdu_limit}
use Rattle.wl_frame.specs.Sealing.{Sealing}
use Rattle.wl_history.specs.declared.command.Command.{Command}
use Rattle.wl_history.specs.declared.command.Command.TheVariants as commands
use Rattle.wl_history.specs.EndState.{EndState}
use Rattle.wl_elem.specs.Lanes.{peer_of}
use Rattle.wl_history.specs.AirState.{AirState, end_of}
use Rattle.wl_history.specs.Ends.{is_link}
use Rattle.wl_history.specs.Machines.{AreEntries}
use Rattle.wl_history.specs.Legal.{ForgedIf, Forges, IsSealable}
use Rattle.wl_air.specs.declared.fault.StepFault.{StepFault}
use Rattle.wl_air.specs.declared.fault.StepFault.TheVariants as faults

-- why nothing was heard: what was opened is forged; want of memory has no cause
abbrev pub IsHearFault : Sealing → EndState → EndState → ℕ → Option (List ℕ) → StepFault → Type 0
IsHearFault text s sender link octets (faults.Forged opened) = ForgedIf text s sender link octets opened
IsHearFault text s sender link octets faults.Memory = Unit {0}

-- why a command isn't done
abbrev pub IsStepFault : Sealing → Command → AirState → StepFault → Type 0
IsStepFault text command a (faults.Forged opened) = Forges text command a opened
IsStepFault text command a faults.Memory = Unit {0}

-- A body that is queued has a length that bodies have, a sequence number 12 bits, what is sealed in a sender's
-- name goes over one of its links, and entries have the bitmaps of eight TIDs.
abbrev pub CanDo : Command → AirState → Type 0
CanDo (commands.Queue end tid body) a = (1 ≤ length body) × (length body ≤ msdu_limit)
CanDo (commands.Alter end link nth number) a = number < 4096
CanDo (commands.Forge end link lane key pn number body) a = (is_link (end_of a (peer_of end)).start link ≡ true) × IsSealable pn number body
CanDo (commands.MapAsk end entries) a = AreEntries entries
CanDo other a = Unit {0}
