-- For private contracts alone: the value that whole fields are read as, and the test of a mapping.
use Rattle.std.specs.Prelude.{◌≡◌, ℕ, zero, suc, ◌/◌, ◌%◌, ◌==◌, not, Bool, true, List, [], ◌∷◌, Option, None}
use Rattle.wl_elem.specs.Bits.{has_bit}
use Rattle.wl_elem.specs.Fields.{Fits, field_at, after_field, number_in}
use Rattle.wl_ttlm.specs.declared.ttlm.Ttlm.{Ttlm}
use Rattle.wl_ttlm.specs.Ttlm.{map_width}

-- so many mappings, by the bits of the TIDs that have one, and what follows them
unfoldable pub maps_at : ℕ → ℕ → ℕ → List ℕ → List (Option ℕ) × List ℕ
maps_at zero present width octets = ([], octets)
maps_at (suc count) present width octets =
    let more = maps_at count (present / 2) width (after_field (present % 2 == 1) width octets) in
    (number_in (field_at (present % 2 == 1) width octets) ∷ more.0, more.1)

-- the value behind the control octet
unfoldable pub value_at : ℕ → ℕ → List ℕ → Ttlm
value_at control present octets =
    let switched = after_field (not (has_bit control 4)) 1 octets in
    let lasting = after_field (has_bit control 8) 2 switched in
    let maps = maps_at 8 present (map_width (has_bit control 32)) (after_field (has_bit control 16) 3 lasting) in
    record {
      direction = control % 4;
      default = has_bit control 4;
      spare = control / 64;
      narrow = has_bit control 32;
      switch = number_in (field_at (has_bit control 8) 2 switched);
      duration = number_in (field_at (has_bit control 16) 3 lasting);
      maps = maps.0;
      tail = maps.1;
    }

-- the mapping has room, and with default set there is none
pub record MapFits (default narrow : Bool) (map : Option ℕ) : Type 0 where
  pub fits : Fits (map_width narrow) map
  pub none : default ≡ true → map ≡ None
