-- An input that a source tells comes to one ending.
use Rattle.std.proofs.Common.{◌≡◌, ℕ, ◌+◌, ◌<◌, ◌≤◌, List, length, Option, Some, None, Err, refl, sym, ap, subst, ◌∙◌, arith, ◌⊎◌, ◌-◌, inl, inr, eq-zero-or-pos}
use Rattle.wl_io.specs.Seen.{Seen}
use Rattle.wl_io.specs.Reading.{IsTooLong, read_limit}
use Rattle.wl_frame.specs.Sealing.{Sealing}
use Rattle.wl_history.specs.declared.step.Journal.{Journal}
use Rattle.wl_scene.specs.Scene.{SceneOf}
use Rattle.wl_shown.specs.Line.{lines_of}
use Rattle.wl_shown.specs.Decoded.{ShownLines, IsFirstBad}
use Rattle.wl_shown.specs.Checked.{VerdictLines}
use Rattle.wl_top.specs.declared.ending.Ending.{Ending}
use Rattle.wl_top.specs.declared.ending.Ending.TheVariants.{Done, Usage, Refused, Forged, CheckFailed, TooLong}
use Rattle.wl_top.specs.Simulated.{IsWhole}
use Rattle.wl_top.specs.Run.{IsInput, Ran, DecodeEnds, CheckEnds, RunEnds}
use Rattle.wl_top.specs.Settled.{IsSettled, DecodesTo, ChecksTo, RunsTo}
use Rattle.wl_top.proofs.OneRun.{SceneOnce, ReportOnce, PlayedOnce, one_whole, no_scene, read_is}

pub long_is : (left left' : Option (List ℕ)) (told : List ℕ) → left ≡ Some told → IsTooLong left left' → read_limit < length told
long_is (Some bytes) left' told is long = let same : told ≡ bytes = cc in omega (arith, ap (λ (l : List ℕ). length l) same, long.0)
long_is None left' told is long = absurd (cc is)

-- ---- from a run to what its input comes to

module _ (source sink : Seen) (told : List ℕ) (is : source.bytes ≡ Some told) where
  within : (input : List ℕ) → IsInput source input → length told ≤ read_limit
  within input is_input = subst (λ (x : List ℕ). length x ≤ read_limit) (read_is source told input is is_input) is_input.1

  shown_at : (input shown : List ℕ) → IsInput source input → ShownLines (lines_of input) shown → ShownLines (lines_of told) shown
  shown_at input shown is_input h = subst (λ (x : List ℕ). ShownLines (lines_of x) shown) (read_is source told input is is_input) h

  bad_at : (input : List ℕ) (line : ℕ) → IsInput source input → IsFirstBad (lines_of input) line → IsFirstBad (lines_of told) line
  bad_at input line is_input h = subst (λ (x : List ℕ). IsFirstBad (lines_of x) line) (read_is source told input is is_input) h

  verdicts_at : (input verdicts : List ℕ) (refused : Option ℕ) → IsInput source input → VerdictLines (lines_of input) verdicts refused → VerdictLines (lines_of told) verdicts refused
  verdicts_at input verdicts refused is_input h = subst (λ (x : List ℕ). VerdictLines (lines_of x) verdicts refused) (read_is source told input is is_input) h

  pub decode_settled : (e : Ending) → DecodeEnds source sink e → IsSettled e → DecodesTo told e
  decode_settled Done (shown, (input, is_input, h), written) settled = (shown, within input is_input, shown_at input shown is_input h)
  decode_settled (Refused line) (input, is_input, h, untouched) settled = (within input is_input, bad_at input line is_input h)
  decode_settled (TooLong count) (many, long, unharmed, untouched) settled = (long_is source.bytes source.bytes' told is long, many)
  decode_settled Usage ends settled = absurd ends
  decode_settled (Forged count) ends settled = absurd ends
  decode_settled (CheckFailed line) ends settled = absurd ends
  decode_settled other ends settled = absurd settled

  pub check_settled : (e : Ending) → CheckEnds source sink e → IsSettled e → ChecksTo told e
  check_settled Done (verdicts, (input, is_input, h), written) settled = (verdicts, within input is_input, verdicts_at input verdicts None is_input h)
  check_settled (CheckFailed line) (verdicts, (input, is_input, h), written) settled = (verdicts, within input is_input, verdicts_at input verdicts (Some line) is_input h)
  check_settled (Refused line) (input, is_input, h, untouched) settled = (within input is_input, bad_at input line is_input h)
  check_settled (TooLong count) (many, long, unharmed, untouched) settled = (long_is source.bytes source.bytes' told is long, many)
  check_settled Usage ends settled = absurd ends
  check_settled (Forged count) ends settled = absurd ends
  check_settled other ends settled = absurd settled

  whole_at : (text : Sealing) (e : Ending) (journal : Option Journal) (out : List ℕ) (r : Ran source text e journal out) → IsWhole text told e r.made out
  whole_at text e journal out r = subst (λ (x : List ℕ). IsWhole text x e r.made out) (read_is source told r.input is r.is_input) r.whole

  pub run_settled : (text : Sealing) (journal : Option Journal) (e : Ending) → RunEnds source sink text journal e → IsSettled e → RunsTo text told e
  run_settled text journal Done (out, r, written) settled = (r.made, out, within r.input r.is_input, whole_at text Done journal out r)
  run_settled text journal (Forged count) (out, r, written) settled = (r.made, out, within r.input r.is_input, whole_at text (Forged count) journal out r)
  run_settled text journal (Refused place) (input, is_input, scene, untouched, none) settled =
      (within input is_input, subst (λ (x : List ℕ). SceneOf x (Err place)) (read_is source told input is is_input) scene)
  run_settled text journal (TooLong count) ((many, long, unharmed, untouched), none) settled = (long_is source.bytes source.bytes' told is long, many)
  run_settled text journal Usage ends settled = absurd ends.0
  run_settled text journal (CheckFailed line) ends settled = absurd ends.0
  run_settled text journal other ends settled = absurd settled

-- ---- one ending

-- the laws of shown lines and of verdicts
pub record LinesOnce : Type 0 where
  pub refused : (lines : List (List ℕ)) (line other : ℕ) → IsFirstBad lines line → IsFirstBad lines other → line ≡ other
  pub shown_is_not_bad : (lines : List (List ℕ)) (text : List ℕ) (line : ℕ) → ShownLines lines text → IsFirstBad lines line → ⊥
  pub judged : (lines : List (List ℕ)) (text other : List ℕ) (line next : Option ℕ) → VerdictLines lines text line → VerdictLines lines other next → (text ≡ other) × (line ≡ next)
  pub judged_is_not_bad : (lines : List (List ℕ)) (text : List ℕ) (refused : Option ℕ) (line : ℕ) → VerdictLines lines text refused → IsFirstBad lines line → ⊥

within_or_above : (n : ℕ) → n ≤ read_limit → read_limit < n → ⊥
within_or_above n within above = absurd (omega arith)

too_long : (count other : ℕ) → count ≡ read_limit + 1 → other ≡ read_limit + 1 → TooLong count ≡ TooLong other
too_long count other is is' = ap TooLong (is ∙ sym is')

module _ (laws : LinesOnce) (input : List ℕ) where
  bad_once : (a b : ℕ) → IsFirstBad (lines_of input) a → IsFirstBad (lines_of input) b → Refused a ≡ Refused b
  bad_once a b h h' = ap Refused (laws.refused (lines_of input) a b h h')

  pub decoded_once : (e e' : Ending) → DecodesTo input e → DecodesTo input e' → e ≡ e'
  decoded_once Done Done h h' = refl
  decoded_once Done (Refused b) h h' = absurd (laws.shown_is_not_bad (lines_of input) h.0 b h.2 h'.1)
  decoded_once Done (TooLong b) h h' = absurd (within_or_above (length input) h.1 h'.0)
  decoded_once (Refused a) Done h h' = absurd (laws.shown_is_not_bad (lines_of input) h'.0 a h'.2 h.1)
  decoded_once (Refused a) (Refused b) h h' = bad_once a b h.1 h'.1
  decoded_once (Refused a) (TooLong b) h h' = absurd (within_or_above (length input) h.0 h'.0)
  decoded_once (TooLong a) Done h h' = absurd (within_or_above (length input) h'.1 h.0)
  decoded_once (TooLong a) (Refused b) h h' = absurd (within_or_above (length input) h'.0 h.0)
  decoded_once (TooLong a) (TooLong b) h h' = too_long a b h.1 h'.1
  decoded_once Done e' h h' = absurd h'
  decoded_once (Refused a) e' h h' = absurd h'
  decoded_once (TooLong a) e' h h' = absurd h'
  decoded_once e e' h h' = absurd h

  -- an accepted input, or the first line that is refused
  verdict : (text other : List ℕ) (line next : Option ℕ) → VerdictLines (lines_of input) text line → VerdictLines (lines_of input) other next → line ≡ next
  verdict text other line next h h' = (laws.judged (lines_of input) text other line next h h').1

  first_line : (a b : ℕ) → Some a ≡ Some b → CheckFailed a ≡ CheckFailed b
  first_line a b is = let same : a ≡ b = cc in ap CheckFailed same

  pub checked_once : (e e' : Ending) → ChecksTo input e → ChecksTo input e' → e ≡ e'
  checked_once Done Done h h' = refl
  checked_once Done (CheckFailed b) h h' = let is = verdict h.0 h'.0 None (Some b) h.2 h'.2 in absurd (cc is)
  checked_once Done (Refused b) h h' = absurd (laws.judged_is_not_bad (lines_of input) h.0 None b h.2 h'.1)
  checked_once Done (TooLong b) h h' = absurd (within_or_above (length input) h.1 h'.0)
  checked_once (CheckFailed a) Done h h' = let is = verdict h.0 h'.0 (Some a) None h.2 h'.2 in absurd (cc is)
  checked_once (CheckFailed a) (CheckFailed b) h h' = first_line a b (verdict h.0 h'.0 (Some a) (Some b) h.2 h'.2)
  checked_once (CheckFailed a) (Refused b) h h' = absurd (laws.judged_is_not_bad (lines_of input) h.0 (Some a) b h.2 h'.1)
  checked_once (CheckFailed a) (TooLong b) h h' = absurd (within_or_above (length input) h.1 h'.0)
  checked_once (Refused a) Done h h' = absurd (laws.judged_is_not_bad (lines_of input) h'.0 None a h'.2 h.1)
  checked_once (Refused a) (CheckFailed b) h h' = absurd (laws.judged_is_not_bad (lines_of input) h'.0 (Some b) a h'.2 h.1)
  checked_once (Refused a) (Refused b) h h' = bad_once a b h.1 h'.1
  checked_once (Refused a) (TooLong b) h h' = absurd (within_or_above (length input) h.0 h'.0)
  checked_once (TooLong a) Done h h' = absurd (within_or_above (length input) h'.1 h.0)
  checked_once (TooLong a) (CheckFailed b) h h' = absurd (within_or_above (length input) h'.1 h.0)
  checked_once (TooLong a) (Refused b) h h' = absurd (within_or_above (length input) h'.0 h.0)
  checked_once (TooLong a) (TooLong b) h h' = too_long a b h.1 h'.1
  checked_once Done e' h h' = absurd h'
  checked_once (CheckFailed a) e' h h' = absurd h'
  checked_once (Refused a) e' h h' = absurd h'
  checked_once (TooLong a) e' h h' = absurd h'
  checked_once e e' h h' = absurd h

module _ (reads : SceneOnce) (plays_once : PlayedOnce) (law : ReportOnce) (text : Sealing) (input : List ℕ) where
  whole_once : (e e' : Ending) (j j' : Journal) (out out' : List ℕ) → IsWhole text input e j out → IsWhole text input e' j' out' → e ≡ e'
  whole_once e e' j j' out out' w w' = (one_whole reads plays_once law text input e e' j j' out out' w w').0

  place_once : (a b : ℕ) → SceneOf input (Err a) → SceneOf input (Err b) → Refused a ≡ Refused b
  place_once a b h h' = let is = reads input (Err a) (Err b) h h' in let same : a ≡ b = cc is in ap Refused same

  pub ran_once : (e e' : Ending) → RunsTo text input e → RunsTo text input e' → e ≡ e'
  ran_once Done Done h h' = refl
  ran_once Done (Forged b) h h' = whole_once Done (Forged b) h.0 h'.0 h.1 h'.1 h.3 h'.3
  ran_once Done (Refused b) h h' = absurd (no_scene reads text input Done h.0 h.1 b h.3 h'.1)
  ran_once Done (TooLong b) h h' = absurd (within_or_above (length input) h.2 h'.0)
  ran_once (Forged a) Done h h' = whole_once (Forged a) Done h.0 h'.0 h.1 h'.1 h.3 h'.3
  ran_once (Forged a) (Forged b) h h' = whole_once (Forged a) (Forged b) h.0 h'.0 h.1 h'.1 h.3 h'.3
  ran_once (Forged a) (Refused b) h h' = absurd (no_scene reads text input (Forged a) h.0 h.1 b h.3 h'.1)
  ran_once (Forged a) (TooLong b) h h' = absurd (within_or_above (length input) h.2 h'.0)
  ran_once (Refused a) Done h h' = absurd (no_scene reads text input Done h'.0 h'.1 a h'.3 h.1)
  ran_once (Refused a) (Forged b) h h' = absurd (no_scene reads text input (Forged b) h'.0 h'.1 a h'.3 h.1)
  ran_once (Refused a) (Refused b) h h' = place_once a b h.1 h'.1
  ran_once (Refused a) (TooLong b) h h' = absurd (within_or_above (length input) h.0 h'.0)
  ran_once (TooLong a) Done h h' = absurd (within_or_above (length input) h'.2 h.0)
  ran_once (TooLong a) (Forged b) h h' = absurd (within_or_above (length input) h'.2 h.0)
  ran_once (TooLong a) (Refused b) h h' = absurd (within_or_above (length input) h'.0 h.0)
  ran_once (TooLong a) (TooLong b) h h' = too_long a b h.1 h'.1
  ran_once Done e' h h' = absurd h'
  ran_once (Forged a) e' h h' = absurd h'
  ran_once (Refused a) e' h h' = absurd h'
  ran_once (TooLong a) e' h h' = absurd h'
  ran_once e e' h h' = absurd h

-- ---- some ending

above_or_within : (n : ℕ) → (read_limit < n) ⊎ (n ≤ read_limit)
above_or_within n = elim (eq-zero-or-pos (n - read_limit)) [ inl none ↦ inr (omega arith) | inr some ↦ inl (omega arith) ]

-- the input has shown lines, or a first line that is no hex line
abbrev pub IsShownOrBad : List ℕ → Type 0
IsShownOrBad input = ((shown : List ℕ) × ShownLines (lines_of input) shown) ⊎ ((line : ℕ) × IsFirstBad (lines_of input) line)

-- the input has verdicts, or a first line that is no hex line
abbrev pub IsJudgedOrBad : List ℕ → Type 0
IsJudgedOrBad input = ((verdicts : List ℕ) × (refused : Option ℕ) × VerdictLines (lines_of input) verdicts refused) ⊎ ((line : ℕ) × IsFirstBad (lines_of input) line)

decode_within : (input : List ℕ) → length input ≤ read_limit → IsShownOrBad input → (e : Ending) × DecodesTo input e
decode_within input short (inl h) = (Done, (h.0, short, h.1))
decode_within input short (inr h) = (Refused h.0, (short, h.1))

decode_by : (input : List ℕ) → (read_limit < length input) ⊎ (length input ≤ read_limit) → IsShownOrBad input → (e : Ending) × DecodesTo input e
decode_by input (inl above) h = (TooLong (read_limit + 1), (above, refl))
decode_by input (inr short) h = decode_within input short h

pub decode_some : (input : List ℕ) → IsShownOrBad input → (e : Ending) × DecodesTo input e
decode_some input h = decode_by input (above_or_within (length input)) h

check_verdicts : (input verdicts : List ℕ) (refused : Option ℕ) → length input ≤ read_limit → VerdictLines (lines_of input) verdicts refused → (e : Ending) × ChecksTo input e
check_verdicts input verdicts None short h = (Done, (verdicts, short, h))
check_verdicts input verdicts (Some line) short h = (CheckFailed line, (verdicts, short, h))

check_within : (input : List ℕ) → length input ≤ read_limit → IsJudgedOrBad input → (e : Ending) × ChecksTo input e
check_within input short (inl h) = check_verdicts input h.0 h.1 short h.2
check_within input short (inr h) = (Refused h.0, (short, h.1))

check_by : (input : List ℕ) → (read_limit < length input) ⊎ (length input ≤ read_limit) → IsJudgedOrBad input → (e : Ending) × ChecksTo input e
check_by input (inl above) h = (TooLong (read_limit + 1), (above, refl))
check_by input (inr short) h = check_within input short h

pub check_some : (input : List ℕ) → IsJudgedOrBad input → (e : Ending) × ChecksTo input e
check_some input h = check_by input (above_or_within (length input)) h
