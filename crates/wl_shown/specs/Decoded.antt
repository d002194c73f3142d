-- What `decode` writes: a shown line for each line of the input.
use Rattle.std.specs.Prelude.{◌≡◌, ℕ, suc, ◌⊎◌, List, [], ◌∷◌, ◌++◌}
use Rattle.wl_shown.specs.declared.line.Kind.{Kind}
use Rattle.wl_shown.specs.declared.line.LineFault.{LineFault}
use Rattle.wl_shown.specs.declared.line.LineFault.TheVariants as lines
use Rattle.wl_shown.specs.declared.decode.TextFault.{TextFault}
use Rattle.wl_shown.specs.declared.decode.TextFault.TheVariants.{NotHex, Memory}
use Rattle.wl_shown.specs.Line.{IsHexLine, IsNoHexLine}
use Rattle.wl_shown.specs.Shown.{Shown}

-- the line is a hex line, and this is shown for it
abbrev pub ShownFor : List ℕ → List ℕ → Type 0
ShownFor line shown = (kind : Kind) × (octets : List ℕ) × IsHexLine line kind octets × Shown kind octets shown

-- the text is the shown lines in order, each with its line end
abbrev pub ShownLines : List (List ℕ) → List ℕ → Type 0
ShownLines [] text = text ≡ []
ShownLines (line ∷ lines) text = (shown rest : List ℕ) × ShownFor line shown × ShownLines lines rest × (text ≡ shown ++ 10 ∷ rest)

-- the first line that is no hex line has this number, counted from 1
abbrev pub IsFirstBad : List (List ℕ) → ℕ → Type 0
IsFirstBad [] number = ⊥
IsFirstBad (line ∷ lines) number =
    (IsNoHexLine line × (number ≡ 1))
    ⊎ ((kind : Kind) × (octets : List ℕ) × (before : ℕ) × IsHexLine line kind octets × IsFirstBad lines before × (number ≡ suc before))

-- why no text was made; want of memory has no cause
abbrev pub IsTextFault : List (List ℕ) → TextFault → Type 0
IsTextFault input (NotHex number) = IsFirstBad input number
IsTextFault input Memory = Unit {0}

-- the fault of a text whose line of this number has one
abbrev pub IsFaultAt : ℕ → LineFault → TextFault → Type 0
IsFaultAt number lines.NotHex fault = fault ≡ NotHex number
IsFaultAt number lines.Memory fault = fault ≡ Memory

-- new is old and what is shown for the line behind it, with its line end
abbrev pub AddsLine : List ℕ → List ℕ → List ℕ → Type 0
AddsLine line old new = (shown : List ℕ) × ShownFor line shown × (new ≡ old ++ (shown ++ 10 ∷ []))
