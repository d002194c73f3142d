-- Histories of scenarios, and their texts.
use Rattle.std.proofs.Common.{◌≡◌, ℕ, List, [], ◌∷◌, Some, None, Result, Ok, Err, sym, subst, ◌∙◌, inl, inr}
use Rattle.std.specs.Prelude.{OnOk, IfErr}
use Rattle.std.specs.List.{AllByRecursion}
use Rattle.wl_frame.specs.Sealing.{Sealing}
use Rattle.wl_history.specs.declared.command.Command.{Command}
use Rattle.wl_history.specs.declared.script.Plain.{Plain}
use Rattle.wl_history.specs.declared.script.Plain.TheVariants.{Do, Send}
use Rattle.wl_history.specs.declared.script.Stage.{Stage}
use Rattle.wl_history.specs.declared.script.Stage.TheVariants.{Reserving, Booking, Putting}
use Rattle.wl_history.specs.declared.start.Start.{Start}
use Rattle.wl_history.specs.declared.step.Journal.{Journal}
use Rattle.wl_history.specs.declared.step.Step.{Step}
use Rattle.wl_history.specs.AirState.{state_of}
use Rattle.wl_history.specs.Legal.{Fits, Legal, Forges}
use Rattle.wl_history.specs.Scripts.{Cursor, Performed, Comes, Reaches, asks, command_at, plains}
use Rattle.wl_history.specs.Safe.{Safe}
use Rattle.wl_air.specs.declared.fault.StepFault.{StepFault}
use Rattle.wl_air.specs.declared.fault.StepFault.TheVariants as faults
use Rattle.wl_air.specs.Playing as air
use Rattle.wl_air.specs.World.{WorldState, Stands}
use Rattle.wl_scene.specs.declared.scenario.Scenario.{Scenario}
use Rattle.wl_scene.specs.Scene.{SceneOf}
use Rattle.wl_scene.specs.Sound as scene
use Rattle.wl_top.specs.declared.ending.Ending.{Ending}
use Rattle.wl_top.specs.Simulated.{BrokenOff, HasRun, IsOutput, IsHalf, IsWhole, IsSafe, PlayedTo}

-- the commands of a scenario are within the limits of a world
plain_fits : (start : Start) (plain : Plain) → scene.PlainFits start plain → air.PlainFits start plain
plain_fits start (Do command) fits = λ stage. fits
plain_fits start (Send end link lane) fits = sending
  where
    sending : (stage : Stage) → Fits start (command_at stage (Send end link lane))
    sending Reserving = fits.0
    sending Booking = tt
    sending Putting = fits.1

all_fit : (start : Start) (left : List Plain) → AllByRecursion (scene.PlainFits start) left → AllByRecursion (air.PlainFits start) left
all_fit start [] fits = tt
all_fit start (plain ∷ left) fits = (plain_fits start plain fits.0, all_fit start left fits.1)

pub script_fits : (w : WorldState) (s : Scenario) → w.start ≡ s.start → AllByRecursion (scene.PlainFits s.start) (plains s.before) → AllByRecursion (air.PlainFits w.start) (plains s.before)
script_fits w s is fits = subst (λ (x : Start). AllByRecursion (air.PlainFits x) (plains s.before)) (sym is) (all_fit s.start (plains s.before) fits)

-- ---- the journal of a world

-- the world's history, as a journal
pub record Kept (w : WorldState) (journal : Journal) : Type 0 where
  pub start_is : journal.start ≡ w.start
  pub steps_are : journal.steps ≡ w.steps

at_journal : (P : Start → List Step → Type 0) (w : WorldState) (journal : Journal) → Kept w journal → P w.start w.steps → P journal.start journal.steps
at_journal P w journal k p = subst (λ (x : Start). P x journal.steps) (sym k.start_is) (subst (λ (x : List Step). P w.start x) (sym k.steps_are) p)

abbrev pub SafetyLaw : Type 0
SafetyLaw = (text : Sealing) (start : Start) (steps : List Step) → Legal text start steps → Safe text start steps

pub safe_journal : (law : SafetyLaw) (text : Sealing) (w : WorldState) (journal : Journal) → Kept w journal → Stands text w → IsSafe text journal
safe_journal law text w journal k h =
    let legal = at_journal (Legal text) w journal k h.legal in
    record { legal = legal; safe = law text journal.start journal.steps legal }

run_at : (text : Sealing) (s : Scenario) (ending : Ending) (w : WorldState) (journal : Journal) → Kept w journal → HasRun text s ending w.steps → HasRun text s ending journal.steps
run_at text s ending w journal k run = subst (λ (x : List Step). HasRun text s ending x) (sym k.steps_are) run

output_at : (s : Scenario) (w : WorldState) (journal : Journal) (out : List ℕ) → Kept w journal → w.start ≡ s.start → IsOutput w.start w.steps out → IsOutput s.start journal.steps out
output_at s w journal out k is output = subst (λ (x : List Step). IsOutput s.start x out) (sym k.steps_are) (subst (λ (x : Start). IsOutput x w.steps out) is output)

pub whole_of : (text : Sealing) (s : Scenario) (input : List ℕ) (ending : Ending) (w : WorldState) (journal : Journal) (out : List ℕ) → SceneOf input (Ok s) → w.start ≡ s.start → HasRun text s ending w.steps → Kept w journal → IsOutput w.start w.steps out
    → IsWhole text input ending journal out
whole_of text s input ending w journal out read is run k output = record {
  scene = s;
  is_scene = read;
  start_is = k.start_is ∙ is;
  has_run = run_at text s ending w journal k run;
  is_output = output_at s w journal out k is output;
}

pub half_of : (text : Sealing) (s : Scenario) (input : List ℕ) (ending : Ending) (w : WorldState) (journal : Journal) → SceneOf input (Ok s) → w.start ≡ s.start → HasRun text s ending w.steps → Kept w journal → IsHalf text input journal
half_of text s input ending w journal read is run k = record { scene = s; is_scene = read; start_is = k.start_is ∙ is; come = inl (ending, run_at text s ending w journal k run) }

-- ---- what a script made of a world that did nothing yet

comes : (text : Sealing) (s : Scenario) (w w' : WorldState) (to : Cursor) → w.start ≡ s.start → w'.start ≡ w.start → w.steps ≡ [] → Stands text w' → Performed 0 s.before w.steps w'.steps to → Comes text s.start s.before w'.steps to
comes text s w w' to is start_is none stands performed = record {
  legal = subst (λ (x : Start). Legal text x w'.steps) (start_is ∙ is) stands.legal;
  performed = subst (λ (before : List Step). Performed 0 s.before before w'.steps to) none performed;
}

broken : (text : Sealing) (s : Scenario) (w : WorldState) (fault : StepFault) (to : Cursor) (command : Command) → w.start ≡ s.start → Stands text w → Comes text s.start s.before w.steps to → asks to ≡ Some command → air.IsWorldFault text w command fault → BrokenOff text s w.steps fault
broken text s w (faults.Forged opened) to command is stands c asked forged =
    (to, command, c, asked, subst (λ (x : Start). Forges text command (state_of text x w.steps) opened) is (forged stands))
broken text s w faults.Memory to command is stands c asked fault = (to, command, c, asked)

pub played_to : (text : Sealing) (s : Scenario) (w w' : WorldState) (played : Result (Unit {0}) StepFault) → w.start ≡ s.start → w'.start ≡ w.start → w.steps ≡ [] → Stands text w'
    → OnOk played ((to : Cursor) × Performed 0 s.before w.steps w'.steps to × (asks to ≡ None))
    → IfErr played (λ fault. (to : Cursor) × (command : Command) × Performed 0 s.before w.steps w'.steps to × (asks to ≡ Some command) × air.IsWorldFault text w' command fault) → PlayedTo text s w'.steps played
played_to text s w w' (Ok done) is start_is none stands (to, performed, ended) err = (to, comes text s w w' to is start_is none stands performed, ended)
played_to text s w w' (Err fault) is start_is none stands ok (to, command, performed, asked, why) =
    broken text s w' fault to command (start_is ∙ is) stands (comes text s w w' to is start_is none stands performed) asked why

pub reached_of : (text : Sealing) (s : Scenario) (input : List ℕ) (w : WorldState) (journal : Journal) → SceneOf input (Ok s) → w.start ≡ s.start → Kept w journal → Reaches text s.start s.before w.steps → IsHalf text input journal
reached_of text s input w journal read is k reaches = record {
  scene = s;
  is_scene = read;
  start_is = k.start_is ∙ is;
  come = inr (subst (λ (x : List Step). Reaches text s.start s.before x) (sym k.steps_are) reaches);
}
