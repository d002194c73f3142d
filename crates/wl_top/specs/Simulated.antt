-- What `run` makes of a scenario: its history and the two texts of it.
use Rattle.std.specs.Prelude.{◌≡◌, ℕ, ◌⊎◌, List, ◌++◌, length, Option, Some, None, Result, Ok, Err}
use Rattle.wl_frame.specs.Sealing.{Sealing}
use Rattle.wl_history.specs.declared.opened.Opened.{Opened}
use Rattle.wl_history.specs.declared.start.Start.{Start}
use Rattle.wl_history.specs.declared.step.Journal.{Journal}
use Rattle.wl_history.specs.declared.step.Step.{Step}
use Rattle.wl_history.specs.Legal.{Legal}
use Rattle.wl_history.specs.Scripts.{Plays, Stops, Reaches}
use Rattle.wl_history.specs.Safe.{Safe}
use Rattle.wl_air.specs.declared.fault.StepFault.{StepFault}
use Rattle.wl_air.specs.declared.fault.StepFault.TheVariants as faults
use Rattle.wl_air.specs.World.{WorldState}
use Rattle.wl_scene.specs.declared.scenario.Scenario.{Scenario}
use Rattle.wl_scene.specs.Account.{IsReport}
use Rattle.wl_scene.specs.Lines.{journal_lines}
use Rattle.wl_scene.specs.Scene.{SceneOf}
use Rattle.wl_top.specs.declared.ending.Ending.{Ending}
use Rattle.wl_top.specs.declared.ending.Ending.TheVariants.{Done, Forged}
use Rattle.wl_top.specs.declared.simulate.Simulated.{Simulated}
use Rattle.wl_top.specs.declared.simulate.Simulated.TheVariants as simulated

-- The commands of the scenario leave these steps, or the next command after these steps is forged,
-- which are so many.
abbrev pub HasRun : Sealing → Scenario → Ending → List Step → Type 0
HasRun text scene Done steps = Plays text scene.start scene.before steps
HasRun text scene (Forged count) steps = (opened : Opened) × Stops text scene.start scene.before steps opened × (count ≡ length steps)
HasRun text scene other steps = ⊥

-- the journal's text, then the report's
pub record IsOutput (start : Start) (steps : List Step) (out : List ℕ) : Type 0 where
  pub report : List ℕ
  pub is_report : IsReport start steps report
  pub out_is : out ≡ journal_lines steps ++ report

-- the journal has the steps of a run of the scenario that was read from this input, whole or broken off
pub record IsHalf (text : Sealing) (input : List ℕ) (journal : Journal) : Type 0 where
  pub scene : Scenario
  pub is_scene : SceneOf input (Ok scene)
  pub start_is : journal.start ≡ scene.start
  pub come : ((ending : Ending) × HasRun text scene ending journal.steps) ⊎ Reaches text scene.start scene.before journal.steps

-- the history of the scenario that was read from this input, and its texts
pub record IsWhole (text : Sealing) (input : List ℕ) (ending : Ending) (journal : Journal) (out : List ℕ) : Type 0 where
  pub scene : Scenario
  pub is_scene : SceneOf input (Ok scene)
  pub start_is : journal.start ≡ scene.start
  pub has_run : HasRun text scene ending journal.steps
  pub is_output : IsOutput scene.start journal.steps out

-- For private contracts alone: the scenario's commands were broken off by this fault, at these steps.
abbrev pub BrokenOff : Sealing → Scenario → List Step → StepFault → Type 0
BrokenOff text scene steps (faults.Forged opened) = Stops text scene.start scene.before steps opened
BrokenOff text scene steps faults.Memory = Reaches text scene.start scene.before steps

-- For private contracts alone: how far the scenario's commands were done, to these steps.
abbrev pub PlayedTo : Sealing → Scenario → List Step → Result (Unit {0}) StepFault → Type 0
PlayedTo text scene steps (Ok done) = Plays text scene.start scene.before steps
PlayedTo text scene steps (Err fault) = BrokenOff text scene steps fault

-- the history of a world
abbrev pub journal_of : WorldState → Journal
journal_of w = record { start = w.start; steps = w.steps }

-- the history that came of it, where there was a world
abbrev pub journal_in : Simulated → Option Journal
journal_in (simulated.Halted journal) = Some journal
journal_in (simulated.Ran ending journal out) = Some journal
journal_in other = None

abbrev pub IsSimulated : Sealing → List ℕ → Simulated → Type 0
IsSimulated text input (simulated.Refused place) = SceneOf input (Err place)
IsSimulated text input simulated.Unmade = Unit {0}
IsSimulated text input (simulated.Halted journal) = IsHalf text input journal
IsSimulated text input (simulated.Ran ending journal out) = IsWhole text input ending journal out

-- the journal is a legal history, and safe
pub record IsSafe (text : Sealing) (journal : Journal) : Type 0 where
  pub legal : Legal text journal.start journal.steps
  pub safe : Safe text journal.start journal.steps

abbrev pub IsSafeIf : Sealing → Option Journal → Type 0
IsSafeIf text None = Unit {0}
IsSafeIf text (Some journal) = IsSafe text journal

abbrev pub SimulatedSafe : Sealing → Simulated → Type 0
SimulatedSafe text (simulated.Refused place) = Unit {0}
SimulatedSafe text simulated.Unmade = Unit {0}
SimulatedSafe text (simulated.Halted journal) = IsSafe text journal
SimulatedSafe text (simulated.Ran ending journal out) = IsSafe text journal
