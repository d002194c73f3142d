-- What is seen of a source or of a sink over a call.
use Rattle.std.specs.Prelude.{◌≡◌, ℕ, List, Option}

-- the bytes that a source has left or that a sink took, where it tells them, and its count of faults:
-- each before the call and after it
pub record Seen : Type 0 where
  pub bytes : Option (List ℕ)
  pub bytes' : Option (List ℕ)
  pub faults : ℕ
  pub faults' : ℕ

-- what is seen of a source or a sink that was `old` and is `new`, by what it tells
abbrev pub seen : {X : Type 0} → (X → Option (List ℕ)) → (X → ℕ) → X → X → Seen
seen tells counts old new = record { bytes = tells old; bytes' = tells new; faults = counts old; faults' = counts new }

-- no fault was counted
abbrev pub IsUnharmed : Seen → Type 0
IsUnharmed s = s.faults' ≡ s.faults

-- it is as it was: the same bytes, and no fault
abbrev pub IsUntouched : Seen → Type 0
IsUntouched s = (s.bytes' ≡ s.bytes) × (s.faults' ≡ s.faults)
