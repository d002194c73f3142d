-- What a source hands over. None says that it doesn't tell its bytes, and claims nothing.
use Rattle.std.specs.Prelude.{◌≡◌, List, [], ℕ, ◌++◌, Option, Some, None}

-- these bytes were the next of those left, and the rest are left now
abbrev pub Hands : Option (List ℕ) → Option (List ℕ) → List ℕ → Type 0
Hands (Some left) new bytes = (rest : List ℕ) × (left ≡ bytes ++ rest) × (new ≡ Some rest)
Hands None new bytes = Unit {0}

-- no bytes are left
abbrev pub IsEnd : Option (List ℕ) → Type 0
IsEnd (Some left) = left ≡ []
IsEnd None = Unit {0}

-- some of the bytes were handed over, perhaps none
abbrev pub HandsSome : Option (List ℕ) → Option (List ℕ) → Type 0
HandsSome old new = (bytes : List ℕ) × Hands old new bytes
