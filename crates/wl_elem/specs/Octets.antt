-- Numbers as octets, the lowest first (IEEE Std 802.11, 9.2.2).
use Rattle.std.specs.Prelude.{ℕ, zero, suc, ◌+◌, ◌*◌, ◌/◌, ◌%◌, List, [], ◌∷◌}

-- the number that octets spell
abbrev pub number : List ℕ → ℕ
number [] = 0
number (octet ∷ octets) = octet + 256 * number octets

-- a number in so many octets
abbrev pub octets_of : ℕ → ℕ → List ℕ
octets_of zero n = []
octets_of (suc width) n = n % 256 ∷ octets_of width (n / 256)
