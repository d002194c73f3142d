-- Counts that stay at the last value of their type.
use Rattle.std.specs.Prelude.{ℕ, ◌+◌, min}
use Rattle.wl_io.specs.Faults.{last_count}

-- the count after one more
abbrev pub risen : ℕ → ℕ
risen count = min (count + 1) last_count
