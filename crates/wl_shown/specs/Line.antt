-- The lines of an input, and hex lines.
use Rattle.std.specs.Prelude.{◌≡◌, ℕ, ◌==◌, false, List, [], ◌∷◌, ◌++◌, map, codes, Ok, ◌⊎◌}
use Rattle.std.specs.List.{slice_split, AllByRecursion}
use Rattle.std.specs.Str.Lines.{strip_carriage_return}
use Rattle.hex.specs.Hex.{decode_of}
use Rattle.wl_shown.specs.declared.line.Kind.{Kind}
use Rattle.wl_shown.specs.declared.line.LineFault.{LineFault}
use Rattle.wl_shown.specs.declared.line.LineFault.TheVariants.{NotHex, Memory}
use Rattle.wl_shown.specs.declared.line.Kind.TheVariants.{Elements, Action, AssocAsk, AssocReply, Frame}

-- the octet stands nowhere in the octets
abbrev pub Lacks : ℕ → List ℕ → Type 0
Lacks octet octets = AllByRecursion (λ o. (o == octet) ≡ false) octets

-- the first such octet stands between front and back
abbrev pub IsSplitAt : ℕ → List ℕ → List ℕ → List ℕ → Type 0
IsSplitAt octet octets front back = (octets ≡ front ++ octet ∷ back) × Lacks octet front

-- an empty rest behind the last line end is no line
abbrev pub without_last : List (List ℕ) → List (List ℕ)
without_last [] = []
without_last ([] ∷ []) = []
without_last ((o ∷ rest) ∷ []) = (o ∷ rest) ∷ []
without_last (line ∷ next ∷ more) = line ∷ without_last (next ∷ more)

-- The text is cut at each `\n`, and one `\r` at a line's end is dropped.
abbrev pub lines_of : List ℕ → List (List ℕ)
lines_of text = map strip_carriage_return (without_last (slice_split (λ octet. octet == 10) text))

-- the word of a kind
abbrev pub kind_word : Kind → List ℕ
kind_word Elements = codes "elements"
kind_word Action = codes "action"
kind_word AssocAsk = codes "assoc-ask"
kind_word AssocReply = codes "assoc-reply"
kind_word Frame = codes "frame"

-- the line is digits alone, for elements, or a kind's word, one space and digits
abbrev pub IsKindLine : List ℕ → Kind → List ℕ → Type 0
IsKindLine line kind digits = ((kind ≡ Elements) × (line ≡ digits)) ⊎ (line ≡ kind_word kind ++ 32 ∷ digits)

-- the line is hex digits of either case, two for each of the octets, behind its kind
abbrev pub IsHexLine : List ℕ → Kind → List ℕ → Type 0
IsHexLine line kind octets = (digits : List ℕ) × IsKindLine line kind digits × (decode_of digits ≡ Ok octets)

-- no kind and digits but these make the line a hex line
abbrev pub IsOnlyReading : List ℕ → Kind → List ℕ → Type 0
IsOnlyReading line kind digits = (other : Kind) (octets : List ℕ) → IsHexLine line other octets → (other ≡ kind) × (decode_of digits ≡ Ok octets)

-- it is no hex line
abbrev pub IsNoHexLine : List ℕ → Type 0
IsNoHexLine line = (kind : Kind) (octets : List ℕ) → IsHexLine line kind octets → ⊥

-- why the line wasn't read; want of memory has no cause
abbrev pub IsLineFault : List ℕ → LineFault → Type 0
IsLineFault line NotHex = IsNoHexLine line
IsLineFault line Memory = Unit {0}
