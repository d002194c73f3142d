-- What `check` writes: a verdict for each line of the input, and which line is the first refused.
use Rattle.std.specs.Prelude.{◌≡◌, ℕ, suc, ◌+◌, Bool, true, false, List, [], ◌∷◌, ◌++◌, length, Option, Some, None, Ok, Err, codes}
use Rattle.std.specs.Fmt.{decimal}
use Rattle.wl_shown.specs.declared.line.Kind.{Kind}
use Rattle.wl_shown.specs.Line.{IsHexLine}
use Rattle.wl_shown.specs.Shown.{Answer, AnswerAs}
use Rattle.wl_shown.specs.Text.{refused_text}

abbrev pub is_accepted : Answer → Bool
is_accepted (Ok items) = true
is_accepted (Err refusal) = false

-- the verdict on so many octets
abbrev pub verdict_text : ℕ → Answer → List ℕ
verdict_text count (Ok items) = codes "ok " ++ decimal count
verdict_text count (Err refusal) = refused_text refusal

-- the verdict on octets of a kind
abbrev pub VerdictOf : Kind → List ℕ → Bool → List ℕ → Type 0
VerdictOf kind octets accepted text = (answer : Answer) × AnswerAs kind octets answer × (accepted ≡ is_accepted answer) × (text ≡ verdict_text (length octets) answer)

-- the line is a hex line, and this is the verdict on it
abbrev pub VerdictFor : List ℕ → Bool → List ℕ → Type 0
VerdictFor line accepted text = (kind : Kind) × (octets : List ℕ) × IsHexLine line kind octets × VerdictOf kind octets accepted text

-- the number of the first refused line, counted from 1
abbrev pub first_refused : Bool → Option ℕ → Option ℕ
first_refused false later = Some 1
first_refused true None = None
first_refused true (Some number) = Some (suc number)

-- the text is the verdicts in order, each with its line end, and this is the first refused line
abbrev pub VerdictLines : List (List ℕ) → List ℕ → Option ℕ → Type 0
VerdictLines [] text refused = (text ≡ []) × (refused ≡ None)
VerdictLines (line ∷ lines) text refused =
    (accepted : Bool) × (verdict rest : List ℕ) × (later : Option ℕ) × VerdictFor line accepted verdict × VerdictLines lines rest later
    × (text ≡ verdict ++ 10 ∷ rest) × (refused ≡ first_refused accepted later)

-- new is old and the verdict on the line behind it, with its line end
abbrev pub AddsVerdict : List ℕ → Bool → List ℕ → List ℕ → Type 0
AddsVerdict line accepted old new = (verdict : List ℕ) × VerdictFor line accepted verdict × (new ≡ old ++ (verdict ++ 10 ∷ []))

-- the first refused line of all, where `number` lines were before the rest
abbrev pub refused_of_all : ℕ → Option ℕ → Option ℕ → Option ℕ
refused_of_all number (Some first) later = Some first
refused_of_all number None (Some n) = Some (number + n)
refused_of_all number None None = None

-- the first refused line once the line of this number has its verdict
abbrev pub refused_with : ℕ → Option ℕ → Bool → Option ℕ
refused_with number (Some first) accepted = Some first
refused_with number None true = None
refused_with number None false = Some number

-- new is old and the verdict on octets of a kind behind it
abbrev pub AddsAnswer : Kind → List ℕ → Bool → List ℕ → List ℕ → Type 0
AddsAnswer kind octets accepted old new = (text : List ℕ) × VerdictOf kind octets accepted text × (new ≡ old ++ text)
