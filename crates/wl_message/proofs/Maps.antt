-- The bitmaps of TIDs, read back from their octets.
use Rattle.std.proofs.Common.{◌≡◌, ℕ, ◌+◌, ◌*◌, ◌/◌, ◌%◌, ◌≤◌, true, false, eqb, List, [], ◌∷◌, length, Option, Some, None, refl, ap, arith}
use Rattle.std.specs.List.{AllByRecursion}
use Rattle.wl_elem.specs.Fields.{Fits}
use Rattle.wl_elem.proofs.Numbers.{test_of}
use Rattle.wl_ttlm.specs.Ttlm.{presence, mappings}
use Rattle.wl_message.specs.Message.{maps_in}

pub maps_again : (maps : List (Option ℕ)) → AllByRecursion (Fits 2) maps → maps_in (length maps) (presence maps) (mappings 2 maps) ≡ maps
unfolding maps_in
maps_again [] fit = refl
maps_again (None ∷ maps) fit =
    let low : eqb ((0 + 2 * presence maps) % 2) 1 ≡ false = test_of _ false (omega arith) in
    let high : (0 + 2 * presence maps) / 2 ≡ presence maps = omega arith in
    rw (low, high) (ap (λ (x : List (Option ℕ)). None ∷ x) (maps_again maps fit.1))
maps_again (Some n ∷ maps) fit =
    let low : eqb ((1 + 2 * presence maps) % 2) 1 ≡ true = test_of _ true (omega arith) in
    let high : (1 + 2 * presence maps) / 2 ≡ presence maps = omega arith in
    let word : n % 256 + 256 * (n / 256 % 256) ≡ n = omega (arith, fit.0) in
    rw (low, high, word) (ap (λ (x : List (Option ℕ)). Some n ∷ x) (maps_again maps fit.1))

-- a bitmap takes two octets
pub mappings_short : (maps : List (Option ℕ)) → length (mappings 2 maps) ≤ 2 * length maps
mappings_short [] = omega arith
mappings_short (None ∷ maps) = omega (arith, mappings_short maps)
mappings_short (Some n ∷ maps) = omega (arith, mappings_short maps)
