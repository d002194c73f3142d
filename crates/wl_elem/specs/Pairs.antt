-- Pairs of key number and packet number (IEEE Std 802.11, 12.5.3): under a later key packet numbers
-- begin anew, so a pair is compared by its key first.
use Rattle.std.specs.Prelude.{ℕ, ◌==◌, ◌&&◌, ◌||◌, nat_lt, Bool}

-- the first pair is below the other
abbrev pub pair_below : ℕ → ℕ → ℕ → ℕ → Bool
pair_below key pn other_key other_pn = nat_lt key other_key || (key == other_key && nat_lt pn other_pn)
