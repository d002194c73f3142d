-- Filters of the numbers from 0 to 255, one after the other.
use Rattle.std.proofs.Common.{◌≡◌, ℕ, ◌+◌, ◌≤◌, ◌<◌, Bool, true, false, cond, [], ◌∷◌, ◌++◌, length, take, get_or, ap, ◌∙◌, arith}
use Rattle.std.specs.Prelude.{filter}
use Rattle.std.proofs.lemmas.List.{append-nil, take_all}
use Rattle.std.proofs.lemmas.List.Elements.{filter_more}
use Rattle.std.proofs.lemmas.List.FromFn.{length-range_with_len, get_or-range_with_len}
use Rattle.std.proofs.lemmas.List.Sums.{length-filter, count_by-le-length}
use Rattle.wl_inherit.specs.Shrunk.{octet_values}

pub octet_at : (i : ℕ) → i < 256 → get_or octet_values i 0 ≡ i
unfolding octet_values
octet_at i lt = omega (arith, get_or-range_with_len 0 256 i 0 lt)

pub octets_length : length octet_values ≡ 256
unfolding octet_values
octets_length = length-range_with_len 0 256

octet_more : (p : ℕ → Bool) (i : ℕ) → i < 256 → filter p (take (i + 1) octet_values) ≡ filter p (take i octet_values) ++ cond (p i) (i ∷ []) []
octet_more p i lt =
    filter_more p octet_values i 0 (omega (arith, octets_length)) ∙ ap (λ (n : ℕ). filter p (take i octet_values) ++ cond (p n) (n ∷ []) []) (octet_at i lt)

pub octet_yes : (p : ℕ → Bool) (i : ℕ) → i < 256 → p i ≡ true → filter p (take (i + 1) octet_values) ≡ filter p (take i octet_values) ++ i ∷ []
octet_yes p i lt is = octet_more p i lt ∙ ap (λ (b : Bool). filter p (take i octet_values) ++ cond b (i ∷ []) []) is

pub octet_no : (p : ℕ → Bool) (i : ℕ) → i < 256 → p i ≡ false → filter p (take (i + 1) octet_values) ≡ filter p (take i octet_values)
octet_no p i lt isnt = octet_more p i lt ∙ ap (λ (b : Bool). filter p (take i octet_values) ++ cond b (i ∷ []) []) isnt ∙ append-nil (filter p (take i octet_values))

pub octets_all : (i : ℕ) → 256 ≤ i → take i octet_values ≡ octet_values
octets_all i le = take_all i octet_values (omega (arith, octets_length))

pub few_octets : (p : ℕ → Bool) → length (filter p octet_values) ≤ 256
few_octets p = omega (arith, length-filter p octet_values, count_by-le-length p octet_values, octets_length)
