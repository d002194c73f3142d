-- Counts of faults.
use Rattle.std.specs.Prelude.{◌≡◌, ℕ, ◌<◌, ◌⊎◌}

-- where a count of faults stays
abbrev pub last_count : ℕ
last_count = 18446744073709551615

-- The count rose in a call. At its last value it can't rise, and counts as risen.
abbrev pub Rose : ℕ → ℕ → Type 0
Rose old new = (old < new) ⊎ ((old ≡ last_count) × (new ≡ last_count))
