use Rattle.std.proofs.Common.{◌≡◌, ◌≤◌, ◌<◌, ◌+◌, ℕ, List, [], Option, Some, None, length, drop, ap, refl, arith, ◌⊎◌, ◌-◌, inl, inr, eq-zero-or-pos}
use Rattle.wl_io.specs.Reading.{AreAll, IsTooLong, read_limit}
use Rattle.wl_top.specs.Run.{IsInput}
use Rattle.wl_top.specs.Settled.{told_source}
use Rattle.wl_top.proofs.laws.read_or_too_long.Goals as goal

not_both : (left after : Option (List ℕ)) (told text : List ℕ) → left ≡ Some told → AreAll left after text → length text ≤ read_limit → IsTooLong left after → ⊥
not_both (Some bytes) after told text is all within long = absurd (omega (arith, ap length all.0, within, long.0))
not_both None after told text is all within long = absurd (cc is)

pub returns-clause-both : goal.returns-clause-both
returns-clause-both c source told text is input long = not_both source.bytes source.bytes' told text is input.0 input.1 long

read_or_long : (told : List ℕ) (count : ℕ) → (length told - read_limit ≡ 0) ⊎ (0 < length told - read_limit)
    → ((length told ≤ read_limit) × IsInput (told_source told [] count) told) ⊎ ((read_limit < length told) × IsTooLong (Some told) (Some (drop (read_limit + 1) told)))
read_or_long told count (inl none) = let within : length told ≤ read_limit = omega arith in inl (within, ((refl, refl), within, refl))
read_or_long told count (inr some) = let above : read_limit < length told = omega arith in inr (above, (above, refl))

pub returns-clause-either : goal.returns-clause-either
returns-clause-either c told count = read_or_long told count (eq-zero-or-pos (length told - read_limit))
