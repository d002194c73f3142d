-- Lists of octets.
use Rattle.std.proofs.Common.{ℕ, zero, suc, ◌<◌, List, [], ◌∷◌, ◌++◌, take, drop}
use Rattle.std.specs.List.{AllByRecursion}

abbrev pub IsOctets : List ℕ → Type 0
IsOctets octets = AllByRecursion (λ octet. octet < 256) octets

pub IsOctets-drop : (n : ℕ) (octets : List ℕ) → IsOctets octets → IsOctets (drop n octets)
IsOctets-drop zero octets h = h
IsOctets-drop (suc n) [] h = tt
IsOctets-drop (suc n) (b ∷ octets) h = IsOctets-drop n octets h.1

pub IsOctets-take : (n : ℕ) (octets : List ℕ) → IsOctets octets → IsOctets (take n octets)
IsOctets-take zero octets h = tt
IsOctets-take (suc n) [] h = tt
IsOctets-take (suc n) (b ∷ octets) h = (h.0, IsOctets-take n octets h.1)

pub IsOctets-append : (a b : List ℕ) → IsOctets a → IsOctets b → IsOctets (a ++ b)
IsOctets-append [] b p q = q
IsOctets-append (x ∷ a) b p q = (p.0, IsOctets-append a b p.1 q)

pub IsOctets-front : (a b : List ℕ) → IsOctets (a ++ b) → IsOctets a
IsOctets-front [] b h = tt
IsOctets-front (x ∷ a) b h = (h.0, IsOctets-front a b h.1)

pub IsOctets-back : (a b : List ℕ) → IsOctets (a ++ b) → IsOctets b
IsOctets-back [] b h = h
IsOctets-back (x ∷ a) b h = IsOctets-back a b h.1
