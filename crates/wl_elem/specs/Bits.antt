-- Bits of numbers. A bit is named by its weight.
use Rattle.std.specs.Prelude.{ℕ, ◌/◌, ◌%◌, ◌==◌, Bool, true, false}

-- a flag as a bit
abbrev pub bit : Bool → ℕ
bit true = 1
bit false = 0

-- the bit of this weight is set
abbrev pub has_bit : ℕ → ℕ → Bool
has_bit number weight = number / weight % 2 == 1
