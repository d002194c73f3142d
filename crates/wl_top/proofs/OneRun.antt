-- A run has one ending, one journal and one text.
use Rattle.std.proofs.Common.{◌≡◌, ℕ, List, ◌++◌, length, Option, Some, None, Result, Ok, Err, refl, sym, ap, subst, ◌∙◌}
use Rattle.wl_elem.specs.declared.lane.EndId.{EndId}
use Rattle.wl_elem.specs.declared.lane.EndId.TheVariants.{Ap, Sta}
use Rattle.wl_frame.specs.Sealing.{Sealing}
use Rattle.wl_history.specs.declared.opened.Opened.{Opened}
use Rattle.wl_history.specs.declared.script.Item.{Item}
use Rattle.wl_history.specs.declared.start.Start.{Start}
use Rattle.wl_history.specs.declared.step.Journal.{Journal}
use Rattle.wl_history.specs.declared.step.Step.{Step}
use Rattle.wl_history.specs.Scripts.{Plays, Stops}
use Rattle.wl_io.specs.Reading.{AreAll}
use Rattle.wl_io.specs.Seen.{Seen}
use Rattle.wl_scene.specs.declared.scenario.Scenario.{Scenario}
use Rattle.wl_scene.specs.declared.totals.Totals.{Totals}
use Rattle.wl_scene.specs.Account.{Reports, IsReport}
use Rattle.wl_scene.specs.Lines.{journal_lines}
use Rattle.wl_scene.specs.Report.{report_text}
use Rattle.wl_scene.specs.Scene.{SceneOf}
use Rattle.wl_top.specs.declared.ending.Ending.{Ending}
use Rattle.wl_top.specs.declared.ending.Ending.TheVariants.{Done, Forged}
use Rattle.wl_top.specs.Simulated.{HasRun, IsOutput, IsWhole}
use Rattle.wl_top.specs.Run.{IsInput, Ran, SameRun}

abbrev pub SceneOnce : Type 0
SceneOnce = (text : List ℕ) (a b : Result Scenario ℕ) → SceneOf text a → SceneOf text b → a ≡ b

abbrev pub ReportOnce : Type 0
ReportOnce = (start : Start) (e : EndId) (steps : List Step) (t u : Totals) → Reports start e steps t → Reports start e steps u → t ≡ u

-- a script is played in one way
pub record PlayedOnce : Type 0 where
  pub plays : (text : Sealing) (start : Start) (items : List Item) (a b : List Step) → Plays text start items a → Plays text start items b → a ≡ b
  pub stops : (text : Sealing) (start : Start) (items : List Item) (a b : List Step) (opened other : Opened) → Stops text start items a opened → Stops text start items b other → a ≡ b
  pub either : (text : Sealing) (start : Start) (items : List Item) (a b : List Step) (opened : Opened) → Plays text start items a → Stops text start items b opened → ⊥

told_all : (left left' : Option (List ℕ)) (told text : List ℕ) → left ≡ Some told → AreAll left left' text → text ≡ told
told_all None left' told text is all = absurd (cc is)
told_all (Some bytes) left' told text is all = let same : told ≡ bytes = cc in all.0 ∙ sym same

-- what was read of a source that tells its bytes
pub read_is : (source : Seen) (told text : List ℕ) → source.bytes ≡ Some told → IsInput source text → text ≡ told
read_is source told text is is_input = told_all source.bytes source.bytes' told text is is_input.0

abbrev journal_of : Start → List Step → Journal
journal_of start steps = record { start = start; steps = steps }

abbrev read_as : Scenario → Result Scenario ℕ
read_as s = Ok s

same_scene : (a b : Scenario) → read_as a ≡ read_as b → a ≡ b
same_scene a b is = let same : a ≡ b = cc is in same

module _ (plays_once : PlayedOnce) (text : Sealing) (s : Scenario) where
  one_end : (e e' : Ending) (steps steps' : List Step) → HasRun text s e steps → HasRun text s e' steps' → (steps ≡ steps') × (e ≡ e')
  one_end Done Done steps steps' run run' = (plays_once.plays text s.start s.before steps steps' run run', refl)
  one_end (Forged n) (Forged m) steps steps' (opened, run, many) (other, run', many') =
      let same : steps ≡ steps' = plays_once.stops text s.start s.before steps steps' opened other run run' in
      (same, ap Forged (many ∙ ap (λ (l : List Step). length l) same ∙ sym many'))
  one_end Done (Forged m) steps steps' run (other, run', many') = absurd (plays_once.either text s.start s.before steps steps' other run run')
  one_end (Forged n) Done steps steps' (opened, run, many) run' = absurd (plays_once.either text s.start s.before steps' steps opened run' run)
  one_end Done e' steps steps' run run' = absurd run'
  one_end (Forged n) e' steps steps' run run' = absurd run'
  one_end e e' steps steps' run run' = absurd run

one_text : ReportOnce → (start : Start) (steps : List Step) (a b : List ℕ) → IsReport start steps a → IsReport start steps b → a ≡ b
one_text law start steps a b r r' =
    r.text_is
    ∙ ap (λ (t : Totals). report_text t r.sta (length steps)) (law start Ap steps r.ap r'.ap r.ap_reports r'.ap_reports)
    ∙ ap (λ (t : Totals). report_text r'.ap t (length steps)) (law start Sta steps r.sta r'.sta r.sta_reports r'.sta_reports)
    ∙ sym r'.text_is

one_out : ReportOnce → (start : Start) (steps : List Step) (a b : List ℕ) → IsOutput start steps a → IsOutput start steps b → a ≡ b
one_out law start steps a b o o' = o.out_is ∙ ap (λ (r : List ℕ). journal_lines steps ++ r) (one_text law start steps o.report o'.report o.is_report o'.is_report) ∙ sym o'.out_is

-- two histories of one input
module _ (reads : SceneOnce) (plays_once : PlayedOnce) (law : ReportOnce) (text : Sealing) (input : List ℕ) where
  pub one_whole : (e e' : Ending) (j j' : Journal) (out out' : List ℕ) → IsWhole text input e j out → IsWhole text input e' j' out' → (e ≡ e') × (j ≡ j') × (out ≡ out')
  one_whole e e' j j' out out' w w' =
      let scene : w'.scene ≡ w.scene = same_scene w'.scene w.scene (reads input (Ok w'.scene) (Ok w.scene) w'.is_scene w.is_scene) in
      let run' : HasRun text w.scene e' j'.steps = subst (λ (s : Scenario). HasRun text s e' j'.steps) scene w'.has_run in
      let (steps, ending) = one_end plays_once text w.scene e e' j.steps j'.steps w.has_run run' in
      let start : j.start ≡ j'.start = w.start_is ∙ sym (ap (λ (s : Scenario). s.start) scene) ∙ sym w'.start_is in
      let output' : IsOutput w.scene.start j.steps out' = subst (λ (x : List Step). IsOutput w.scene.start x out') (sym steps) (subst (λ (s : Scenario). IsOutput s.start j'.steps out') scene w'.is_output) in
      (ending, ap (λ (x : Start). journal_of x j.steps) start ∙ ap (λ (x : List Step). journal_of j'.start x) steps, one_out law w.scene.start j.steps out out' w.is_output output')

  pub one_ran : (source : Seen) → source.bytes ≡ Some input → (e e' : Ending) (j j' : Option Journal) (out out' : List ℕ) → Ran source text e j out → Ran source text e' j' out' → SameRun e e' j j' out out'
  one_ran source is e e' j j' out out' r r' =
      let at : r.input ≡ input = read_is source input r.input is r.is_input in
      let at' : r'.input ≡ input = read_is source input r'.input is r'.is_input in
      let whole : IsWhole text input e r.made out = subst (λ (x : List ℕ). IsWhole text x e r.made out) at r.whole in
      let whole' : IsWhole text input e' r'.made out' = subst (λ (x : List ℕ). IsWhole text x e' r'.made out') at' r'.whole in
      let (ending, journal, out_same) = one_whole e e' r.made r'.made out out' whole whole' in
      record { ending_same = ending; journal_same = r.journal_is ∙ ap Some journal ∙ sym r'.journal_is; text_same = out_same }

-- no text is both a scenario and none
pub no_scene : SceneOnce → (text : Sealing) (input : List ℕ) (e : Ending) (j : Journal) (out : List ℕ) (place : ℕ) → IsWhole text input e j out → SceneOf input (Err place) → ⊥
no_scene reads text input e j out place w refused = let both : read_as w.scene ≡ Err place = reads input (Ok w.scene) (Err place) w.is_scene refused in absurd (cc both)

pub refused_ran : SceneOnce → (source : Seen) (text : Sealing) (told input : List ℕ) (place : ℕ) (e : Ending) (j : Option Journal) (out : List ℕ) → source.bytes ≡ Some told → Ran source text e j out → IsInput source input → SceneOf input (Err place) → ⊥
refused_ran reads source text told input place e j out is r is_input refused =
    let at : r.input ≡ input = read_is source told r.input is r.is_input ∙ sym (read_is source told input is is_input) in
    no_scene reads text input e r.made out place (subst (λ (x : List ℕ). IsWhole text x e r.made out) at r.whole) refused
