-- Reading the mappings one after the other.
use Rattle.std.proofs.Common.{◌≡◌, ℕ, suc, ◌+◌, ◌-◌, ◌/◌, ◌%◌, ◌<◌, ◌≤◌, eqb, List, [], ◌∷◌, ◌++◌, length, take, set, Option, refl, ◌∙◌, append_assoc, arith}
use Rattle.std.proofs.lemmas.List.{append-nil, take_more_set, take_all}
use Rattle.wl_elem.specs.Bits.{has_bit}
use Rattle.wl_elem.specs.Fields.{width_if, field_at, after_field, number_in, total}
use Rattle.wl_ttlm.specs.Ttlm.{map_widths}
use Rattle.wl_ttlm.specs.Reading.{maps_at}

-- half of the half is the quarter, and so on
pub map_widths_are : (n width : ℕ) → map_widths 8 n width
    ≡ width_if (has_bit n 1) width ∷ width_if (has_bit n 2) width ∷ width_if (has_bit n 4) width ∷ width_if (has_bit n 8) width ∷ width_if (has_bit n 16) width ∷ width_if (has_bit n 32) width ∷ width_if (has_bit n 64) width ∷ width_if (has_bit n 128) width ∷ []
unfolding map_widths
map_widths_are n width =
    let by_1 : n / 1 ≡ n = omega arith in
    let by_4 : n / 2 / 2 ≡ n / 4 = omega arith in
    let by_8 : n / 4 / 2 ≡ n / 8 = omega arith in
    let by_16 : n / 8 / 2 ≡ n / 16 = omega arith in
    let by_32 : n / 16 / 2 ≡ n / 32 = omega arith in
    let by_64 : n / 32 / 2 ≡ n / 64 = omega arith in
    let by_128 : n / 64 / 2 ≡ n / 128 = omega arith in
    rw (by_1, by_4, by_8, by_16, by_32, by_64, by_128) refl

pub next_room : (i bits width len : ℕ) → i < 8 → total (map_widths (8 - i) bits width) ≤ len → width_if (eqb (bits % 2) 1) width + total (map_widths (8 - (i + 1)) (bits / 2) width) ≤ len
unfolding map_widths
next_room i bits width len lt le = let k : 8 - i ≡ suc (8 - (i + 1)) = omega arith in rw k at le

-- what was read before, and what is still read
abbrev pub with_front : List (Option ℕ) → List (Option ℕ) × List ℕ → List (Option ℕ) × List ℕ
with_front front read = (front ++ read.0, read.1)

pub next_map : (maps : List (Option ℕ)) (i bits width : ℕ) (octets : List ℕ) (all : List (Option ℕ) × List ℕ) → i < 8 → length maps ≡ 8 → with_front (take i maps) (maps_at (8 - i) bits width octets) ≡ all
    → with_front (take (i + 1) (set maps i (number_in (field_at (eqb (bits % 2) 1) width octets)))) (maps_at (8 - (i + 1)) (bits / 2) width (after_field (eqb (bits % 2) 1) width octets)) ≡ all
unfolding maps_at
next_map maps i bits width octets all lt len so_far =
    let k : 8 - i ≡ suc (8 - (i + 1)) = omega arith in
    let inside : i < length maps = omega arith in
    rw (take_more_set maps i (number_in (field_at (eqb (bits % 2) 1) width octets)) inside, append_assoc) (rw k at so_far)

pub no_map_left : (maps : List (Option ℕ)) (i bits width : ℕ) (octets : List ℕ) (all : List (Option ℕ) × List ℕ) → 8 ≤ i → length maps ≡ 8 → with_front (take i maps) (maps_at (8 - i) bits width octets) ≡ all → (maps, octets) ≡ all
unfolding maps_at
no_map_left maps i bits width octets all le len so_far =
    let k : 8 - i ≡ 0 = omega arith in
    let short : length maps ≤ i = omega arith in
    let whole : take i maps ++ [] ≡ maps = append-nil (take i maps) ∙ take_all i maps short in
    rw (k, whole) at so_far
