-- What an ending tells of the counts of faults.
use Rattle.std.proofs.Common.{◌≡◌, ◌≢◌, ◌⊎◌, ℕ, List, Option, None, refl, sym, ap, subst, arith, inl, inr}
use Rattle.wl_io.specs.Faults.{Rose}
use Rattle.wl_io.specs.Seen.{Seen, IsUnharmed}
use Rattle.wl_frame.specs.Sealing.{Sealing}
use Rattle.wl_history.specs.declared.step.Journal.{Journal}
use Rattle.wl_top.specs.declared.ending.Outcome.{Outcome}
use Rattle.wl_top.specs.declared.ending.Ending.{Ending}
use Rattle.wl_top.specs.declared.ending.Ending.TheVariants.{Done, Usage, Refused, ReadFault, WriteFault, Forged, CheckFailed, TooLong, Memory}
use Rattle.wl_top.specs.declared.run.Task.TheVariants.{Decode, Check, Simulate}
use Rattle.wl_top.specs.Run.{IsTask, DecodeEnds, CheckEnds, RunEnds, Ends, IsOutcome, TellsFaults, outcome_of}

module _ (source sink : Seen) where
  -- the count of the source and that of the sink
  abbrev Counts : Ending → Type 0
  Counts ReadFault = Rose source.faults source.faults' × IsUnharmed sink
  Counts (WriteFault taken) = IsUnharmed source × Rose sink.faults sink.faults'
  Counts other = IsUnharmed source × IsUnharmed sink

  decode_counts : (e : Ending) → DecodeEnds source sink e → Counts e
  decode_counts Done (shown, (input, is_input, h), written) = (is_input.2, written.1)
  decode_counts (Refused line) (input, is_input, h, untouched) = (is_input.2, untouched.1)
  decode_counts (WriteFault count) (shown, (input, is_input, h), fault) = (is_input.2, fault.0)
  decode_counts ReadFault (rose, some, untouched) = (rose, untouched.1)
  decode_counts (TooLong count) (many, long, unharmed, untouched) = (unharmed, untouched.1)
  decode_counts Memory (unharmed, some, untouched) = (unharmed, untouched.1)
  decode_counts other ends = absurd ends

  check_counts : (e : Ending) → CheckEnds source sink e → Counts e
  check_counts Done (verdicts, (input, is_input, h), written) = (is_input.2, written.1)
  check_counts (CheckFailed line) (verdicts, (input, is_input, h), written) = (is_input.2, written.1)
  check_counts (Refused line) (input, is_input, h, untouched) = (is_input.2, untouched.1)
  check_counts (WriteFault count) (verdicts, refused, (input, is_input, h), fault) = (is_input.2, fault.0)
  check_counts ReadFault (rose, some, untouched) = (rose, untouched.1)
  check_counts (TooLong count) (many, long, unharmed, untouched) = (unharmed, untouched.1)
  check_counts Memory (unharmed, some, untouched) = (unharmed, untouched.1)
  check_counts other ends = absurd ends

  run_counts : (text : Sealing) (journal : Option Journal) (e : Ending) → RunEnds source sink text journal e → Counts e
  run_counts text journal Done (out, r, written) = (r.is_input.2, written.1)
  run_counts text journal (Forged count) (out, r, written) = (r.is_input.2, written.1)
  run_counts text journal (Refused place) (input, is_input, h, untouched, none) = (is_input.2, untouched.1)
  run_counts text journal (WriteFault count) (ending, out, r, fault) = (r.is_input.2, fault.0)
  run_counts text journal ReadFault ((rose, some, untouched), none) = (rose, untouched.1)
  run_counts text journal (TooLong count) ((many, long, unharmed, untouched), none) = (unharmed, untouched.1)
  run_counts text journal Memory (unharmed, some, untouched, h) = (unharmed, untouched.1)
  run_counts text journal other ends = absurd ends.0

  task_counts : (words : List (List ℕ)) (text : Sealing) (journal : Option Journal) (e : Ending)
      → (IsTask words Decode × DecodeEnds source sink e × (journal ≡ None)) ⊎ ((IsTask words Check × CheckEnds source sink e × (journal ≡ None)) ⊎ (IsTask words Simulate × RunEnds source sink text journal e)) → Counts e
  task_counts words text journal e (inl h) = decode_counts e h.1
  task_counts words text journal e (inr (inl h)) = check_counts e h.1
  task_counts words text journal e (inr (inr h)) = run_counts text journal e h.1

  end_counts : (words : List (List ℕ)) (text : Sealing) (journal : Option Journal) (e : Ending) → Ends words source sink text journal e → Counts e
  end_counts words text journal Usage h = (h.1.1, h.2.1)
  end_counts words text journal other h = task_counts words text journal other h

  unharmed_tells : (status : ℕ) → status ≢ 3 → status ≢ 4 → IsUnharmed source → IsUnharmed sink → TellsFaults source sink status
  unharmed_tells status three four u v = record { read = λ k. absurd (three k); unread = λ n. u; written = λ k. absurd (four k); unwritten = λ n. v }

  ending_tells : (journal : Option Journal) (e : Ending) → Counts e → TellsFaults source sink (outcome_of e journal).status
  ending_tells journal Done h = unharmed_tells 0 (λ k. omega arith) (λ k. omega arith) h.0 h.1
  ending_tells journal Usage h = unharmed_tells 1 (λ k. omega arith) (λ k. omega arith) h.0 h.1
  ending_tells journal (Refused place) h = unharmed_tells 2 (λ k. omega arith) (λ k. omega arith) h.0 h.1
  ending_tells journal ReadFault h = record { read = λ k. h.0; unread = λ n. absurd (n refl); written = λ (k : 3 ≡ 4). absurd (omega arith); unwritten = λ n. h.1 }
  ending_tells journal (WriteFault taken) h = record { read = λ (k : 4 ≡ 3). absurd (omega arith); unread = λ n. h.0; written = λ k. h.1; unwritten = λ n. absurd (n refl) }
  ending_tells journal (Forged count) h = unharmed_tells 5 (λ k. omega arith) (λ k. omega arith) h.0 h.1
  ending_tells journal (CheckFailed line) h = unharmed_tells 7 (λ k. omega arith) (λ k. omega arith) h.0 h.1
  ending_tells journal (TooLong count) h = unharmed_tells 8 (λ k. omega arith) (λ k. omega arith) h.0 h.1
  ending_tells journal Memory h = unharmed_tells 9 (λ k. omega arith) (λ k. omega arith) h.0 h.1

  pub outcome_tells : (words : List (List ℕ)) (text : Sealing) (o : Outcome) → IsOutcome words source sink text o → TellsFaults source sink o.status
  outcome_tells words text o (e, ends, is) =
      subst (TellsFaults source sink) (sym (ap (λ (x : Outcome). x.status) is)) (ending_tells o.journal e (end_counts words text o.journal e ends))
