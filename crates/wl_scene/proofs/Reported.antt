-- The report of a world that stands.
use Rattle.std.proofs.Common.{◌≡◌, ℕ, List, length, Result, Ok, Err, ap, sym, subst, ◌∙◌}
use Rattle.std.specs.Prelude.{IfOk}
use Rattle.wl_elem.specs.declared.lane.EndId.{EndId}
use Rattle.wl_elem.specs.declared.lane.EndId.TheVariants.{Ap, Sta}
use Rattle.wl_frame.specs.Sealing.{Sealing}
use Rattle.wl_history.specs.declared.start.Start.{Start}
use Rattle.wl_history.specs.declared.step.Step.{Step}
use Rattle.wl_history.specs.AirState.{AirState, end_of as air_end, state_of}
use Rattle.wl_history.specs.EndState.{EndState, IsEnd}
use Rattle.wl_history.specs.Legal.{Legal}
use Rattle.wl_history.specs.Stands.{EndStands}
use Rattle.wl_air.specs.World.{WorldState, Stands, end_of}
use Rattle.wl_scene.specs.declared.totals.Totals.{Totals}
use Rattle.wl_scene.specs.Account.{IsTotals, Reports, IsReport}
use Rattle.wl_scene.specs.Report.{report_text}

abbrev pub TotalsLaw : Type 0
TotalsLaw = (text : Sealing) (start : Start) (e : EndId) (s : EndState) (steps : List Step) (t : Totals) → IsEnd s → EndStands text start e s steps → IsTotals s t → Reports start e steps t

-- what an end of the world told of itself
pub record Told (w : WorldState) (e : EndId) (t : Totals) : Type 0 where
  pub state : EndState
  pub is_end : state ≡ end_of w e
  pub sound : IsEnd state
  pub totals : IsTotals state t

abbrev pub WordsLaw : Type 0
WordsLaw = (text : Sealing) (start : Start) (steps : List Step) → Legal text start steps → (e : EndId) → EndStands text start e (air_end (state_of text start steps) e) steps

reports : TotalsLaw → WordsLaw → (text : Sealing) (w : WorldState) (e : EndId) (t : Totals) → Told w e t → Stands text w → Reports w.start e w.steps t
reports law words text w e t told h =
    let at : told.state ≡ air_end (state_of text w.start w.steps) e = told.is_end ∙ ap (λ (a : AirState). air_end a e) h.air_is in
    law text w.start e told.state w.steps t told.sound (subst (λ (s : EndState). EndStands text w.start e s w.steps) (sym at) (words text w.start w.steps h.legal e)) told.totals

pub report_of : {E : Type 0} (law : TotalsLaw) (words : WordsLaw) (w : WorldState) (ap_totals sta_totals : Totals) (count : ℕ) (r : Result (List ℕ) E) → Told w Ap ap_totals → Told w Sta sta_totals → count ≡ length w.steps
    → IfOk r (λ out. out ≡ report_text ap_totals sta_totals count) → IfOk r (λ out. (text : Sealing) → Stands text w → IsReport w.start w.steps out)
report_of law words w ap_totals sta_totals count (Ok out) a s few is = λ text h. record {
  ap = ap_totals;
  sta = sta_totals;
  ap_reports = reports law words text w Ap ap_totals a h;
  sta_reports = reports law words text w Sta sta_totals s h;
  text_is = is ∙ ap (report_text ap_totals sta_totals) few;
}
report_of law words w ap_totals sta_totals count (Err e) a s few is = tt
