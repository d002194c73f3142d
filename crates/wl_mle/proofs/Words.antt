-- The control word that octets begin with.
use Rattle.std.proofs.Common.{◌≡◌, ℕ, ◌+◌, ◌*◌, ◌/◌, ◌%◌, ◌<◌, ◌≤◌, List, [], ◌∷◌, ◌++◌, length, drop, refl, arith}
use Rattle.wl_elem.specs.Octets.{octets_of}
use Rattle.wl_elem.proofs.Octets.{IsOctets}
use Rattle.wl_mle.specs.Fields.{word_of}

pub word_again : (control : ℕ) (rest : List ℕ) → control < 65536 → word_of (octets_of 2 control ++ rest) ≡ control
word_again control rest lt = omega arith

pub word_text : (octets : List ℕ) → 2 ≤ length octets → IsOctets octets → octets ≡ octets_of 2 (word_of octets) ++ drop 2 octets
word_text [] le is = absurd (omega arith)
word_text (a ∷ []) le is = absurd (omega arith)
word_text (a ∷ b ∷ rest) le is =
    let lt : a < 256 = is.0 in
    let less : b < 256 = is.1.0 in
    let low : (a + 256 * b) % 256 ≡ a = omega arith in
    let high : (a + 256 * b) / 256 % 256 ≡ b = omega arith in
    rw (low, high) refl

pub word_below : (octets : List ℕ) → IsOctets octets → word_of octets < 65536
word_below [] is = omega arith
word_below (a ∷ []) is = let lt : a < 256 = is.0 in omega arith
word_below (a ∷ b ∷ rest) is =
    let lt : a < 256 = is.0 in
    let less : b < 256 = is.1.0 in
    omega arith
