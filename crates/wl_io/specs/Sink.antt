-- What a sink takes. None says that it doesn't tell its bytes, and claims nothing.
use Rattle.std.specs.Prelude.{◌≡◌, List, ℕ, ◌++◌, Option, Some, None}

-- these bytes were taken after those before
abbrev pub Takes : Option (List ℕ) → Option (List ℕ) → List ℕ → Type 0
Takes (Some before) new bytes = new ≡ Some (before ++ bytes)
Takes None new bytes = Unit {0}
