-- What the endings of a run tell.
use Rattle.std.proofs.Common.{◌≡◌, ℕ, ◌≤◌, length, arith, List, Option, Some, None, refl, sym, ap, subst, ◌∙◌, inl, inr}
use Rattle.wl_io.specs.Seen.{Seen, IsUnharmed}
use Rattle.wl_io.specs.Source.{HandsSome}
use Rattle.wl_io.specs.Reading.{AreAll, read_limit}
use Rattle.wl_io.specs.Writing.{IsWritten, IsWriteFault}
use Rattle.wl_frame.specs.Sealing.{Sealing}
use Rattle.wl_history.specs.declared.step.Journal.{Journal}
use Rattle.wl_top.specs.declared.ending.Outcome.{Outcome}
use Rattle.wl_top.specs.declared.ending.Ending.{Ending}
use Rattle.wl_top.specs.declared.ending.Ending.TheVariants.{Done, Usage, Refused, ReadFault, WriteFault, Forged, CheckFailed, TooLong, Memory}
use Rattle.wl_top.specs.declared.run.Task.TheVariants.{Decode, Check, Simulate}
use Rattle.wl_top.specs.declared.simulate.Simulated.{Simulated}
use Rattle.wl_top.specs.declared.simulate.Simulated.TheVariants as simulated
use Rattle.wl_top.specs.Simulated.{IsWhole, IsSimulated, IsSafeIf, SimulatedSafe, journal_in}
use Rattle.wl_top.specs.Run.{IsTask, IsInput, DecodeEnds, CheckEnds, Ran, Ends, EndsAs, IsOutcome, outcome_of}

-- an outcome has the journal that it was made with
journal_kept : (ending : Ending) (journal : Option Journal) → (outcome_of ending journal).journal ≡ journal
journal_kept Done journal = refl
journal_kept Usage journal = refl
journal_kept (Refused place) journal = refl
journal_kept ReadFault journal = refl
journal_kept (WriteFault taken) journal = refl
journal_kept (Forged count) journal = refl
journal_kept (CheckFailed line) journal = refl
journal_kept (TooLong count) journal = refl
journal_kept Memory journal = refl

-- the input that was read, as the octets that it is
pub input_at : (source : Seen) (input text : List ℕ) → text ≡ input → AreAll source.bytes source.bytes' input → length input ≤ read_limit → IsUnharmed source → IsInput source text
input_at source input text is all bound unharmed =
    (subst (AreAll source.bytes source.bytes') (sym is) all, omega (arith, bound, ap (λ (t : List ℕ). length t) is), unharmed)

pub written_at : (sink : Seen) (out text : List ℕ) → text ≡ out → IsWritten sink text → IsWritten sink out
written_at sink out text is written = subst (IsWritten sink) is written

pub fault_at : (sink : Seen) (out text : List ℕ) (count : ℕ) → text ≡ out → IsWriteFault sink text count → IsWriteFault sink out count
fault_at sink out text count is fault = subst (λ (x : List ℕ). IsWriteFault sink x count) is fault

-- the history that came of it is safe
safe_in : (text : Sealing) (s : Simulated) → SimulatedSafe text s → IsSafeIf text (journal_in s)
safe_in text (simulated.Halted journal) safe = safe
safe_in text (simulated.Ran came journal out) safe = safe
safe_in text other safe = tt

module _ (words : List (List ℕ)) (source sink : Seen) (text : Sealing) where
  pub told_by : (ending : Ending) (journal : Option Journal) (o : Outcome) → o ≡ outcome_of ending journal → Ends words source sink text journal ending → IsOutcome words source sink text o
  told_by ending journal o is ends =
      let kept : o.journal ≡ journal = ap (λ (x : Outcome). x.journal) is ∙ journal_kept ending journal in
      (ending, subst (λ (j : Option Journal). Ends words source sink text j ending) (sym kept) ends, is ∙ ap (outcome_of ending) (sym kept))

  pub decoded : (ending : Ending) → IsTask words Decode → DecodeEnds source sink ending → Ends words source sink text None ending
  decoded Usage task ends = absurd ends
  decoded other task ends = inl (task, ends, refl)

  pub checked : (ending : Ending) → IsTask words Check → CheckEnds source sink ending → Ends words source sink text None ending
  checked Usage task ends = absurd ends
  checked other task ends = inr (inl (task, ends, refl))

  -- ---- run

  ran_of : (ending : Ending) (input : List ℕ) (journal : Journal) (out : List ℕ) → IsInput source input → IsWhole text input ending journal out → Ran source text ending (Some journal) out
  ran_of ending input journal out is_input whole = record { input = input; is_input = is_input; made = journal; journal_is = refl; whole = whole }

  run_written : (ending : Ending) (input : List ℕ) (journal : Journal) (out : List ℕ) → IsTask words Simulate → IsInput source input → IsWhole text input ending journal out → IsWritten sink out
      → Ends words source sink text (Some journal) ending
  run_written Done input journal out task is_input whole written = inr (inr (task, (out, ran_of Done input journal out is_input whole, written)))
  run_written (Forged count) input journal out task is_input whole written = inr (inr (task, (out, ran_of (Forged count) input journal out is_input whole, written)))
  run_written other input journal out task is_input whole written = absurd whole.has_run

  ran_ended : (came : Ending) (input : List ℕ) (journal : Journal) (out : List ℕ) (ending : Ending) → IsTask words Simulate → IsInput source input → IsWhole text input came journal out
      → EndsAs sink (simulated.Ran came journal out) ending → Ends words source sink text (Some journal) ending
  ran_ended came input journal out ending task is_input whole (inl (is, written)) =
      subst (λ (e : Ending). Ends words source sink text (Some journal) e) (sym is) (run_written came input journal out task is_input whole written)
  ran_ended came input journal out ending task is_input whole (inr (count, is, fault)) =
      subst (λ (e : Ending). Ends words source sink text (Some journal) e) (sym is) (inr (inr (task, (came, out, ran_of came input journal out is_input whole, fault))))

  pub run_ended : (input : List ℕ) (s : Simulated) (ending : Ending) → IsTask words Simulate → IsInput source input → HandsSome source.bytes source.bytes' → IsSimulated text input s → EndsAs sink s ending
      → Ends words source sink text (journal_in s) ending
  run_ended input (simulated.Refused place) ending task is_input some is (e, untouched) =
      subst (λ (x : Ending). Ends words source sink text None x) (sym e) (inr (inr (task, (input, is_input, is, untouched, refl))))
  run_ended input simulated.Unmade ending task is_input some is (e, untouched) =
      subst (λ (x : Ending). Ends words source sink text None x) (sym e) (inr (inr (task, (is_input.2, some, untouched, tt))))
  run_ended input (simulated.Halted journal) ending task is_input some is (e, untouched) =
      subst (λ (x : Ending). Ends words source sink text (Some journal) x) (sym e) (inr (inr (task, (is_input.2, some, untouched, (input, is_input, is)))))
  run_ended input (simulated.Ran came journal out) ending task is_input some is ends = ran_ended came input journal out ending task is_input is ends

pub safe_ended : (text : Sealing) (s : Simulated) (ending : Ending) (o : Outcome) → SimulatedSafe text s → o ≡ outcome_of ending (journal_in s) → IsSafeIf text o.journal
safe_ended text s ending o safe is = subst (IsSafeIf text) (sym (ap (λ (x : Outcome). x.journal) is ∙ journal_kept ending (journal_in s))) (safe_in text s safe)
