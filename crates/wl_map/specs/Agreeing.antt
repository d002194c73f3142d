-- What one direction has agreed on, and what changes it (IEEE Std 802.11be, 35.3.7). Sets of links are
-- bitmaps; lists of them are by TID, from 0 to 7.
use Rattle.std.specs.Prelude.{◌≡◌, ℕ, ◌==◌, bit_and, if◌then◌else◌, Bool, true, List, map, zip, Option, Some, None, unwrap_or}
use Rattle.std.specs.List.{list_any}
use Rattle.wl_ttlm.specs.Mapping.{default_over, is_mapping}
use Rattle.wl_map.specs.declared.agreed.Agreed.{Agreed}
use Rattle.wl_map.specs.declared.agreed.Agreed.TheVariants as agreed
use Rattle.wl_map.specs.declared.change.Change.{Change}
use Rattle.wl_map.specs.declared.change.Change.TheVariants as changes

-- a direction of these sets
abbrev pub of_sets : List ℕ → Agreed
of_sets sets = agreed.Sets (record { sets = sets })

-- the links of each TID while these are set up: the default has every TID on every one of them
abbrev pub sets_of : ℕ → Agreed → List ℕ
sets_of links agreed.Default = default_over links
sets_of links (agreed.Sets mapping) = mapping.sets

-- a TID that is named has its bitmap, another keeps its set
abbrev pub named : List (Option ℕ) → List ℕ → List ℕ
named maps sets = map (λ (tid : Option ℕ × ℕ). unwrap_or tid.0 tid.1) (zip maps sets)

-- what a direction becomes by a change, while these links are set up
abbrev pub changed : ℕ → Agreed → Change → Agreed
changed links before changes.Default = agreed.Default
changed links before (changes.Sets maps) = of_sets (named maps (sets_of links before))

-- A change is valid where each TID has a link after it, and only links set up. So no bitmap has bit 15,
-- and with no link set up no change is valid, the default neither.
abbrev pub is_valid_change : ℕ → Agreed → Change → Bool
is_valid_change links before change = is_mapping links (sets_of links (changed links before change))

-- the sets without links that aren't set up
abbrev pub kept : ℕ → List ℕ → List ℕ
kept links sets = map (λ (set : ℕ). bit_and set links) sets

-- some TID has no link
abbrev pub has_empty : List ℕ → Bool
has_empty sets = list_any (λ (set : ℕ). set == 0) sets

-- these sets without links that aren't set up, or the default where a TID has no link then
abbrev pub cut : ℕ → List ℕ → Agreed
cut links sets = if has_empty (kept links sets) then agreed.Default else of_sets (kept links sets)

-- what a direction becomes where the links set up become these
abbrev pub cut_to : ℕ → Agreed → Agreed
cut_to links agreed.Default = agreed.Default
cut_to links (agreed.Sets mapping) = cut links mapping.sets

-- a direction that a change is asked for becomes what it says; another stays
abbrev pub becomes : ℕ → Agreed → Option Change → Agreed
becomes links before None = before
becomes links before (Some change) = changed links before change

-- the same, cut to the links set up
abbrev pub becomes_cut : ℕ → Agreed → Option Change → Agreed
becomes_cut links before None = before
becomes_cut links before (Some change) = cut_to links (changed links before change)

-- where a change is asked for, it is valid
abbrev pub is_valid_if : ℕ → Agreed → Option Change → Bool
is_valid_if links before None = true
is_valid_if links before (Some change) = is_valid_change links before change

-- a direction that isn't the default has a link for each TID, and only links set up
abbrev pub IsAgreed : ℕ → Agreed → Type 0
IsAgreed links agreed.Default = Unit {0}
IsAgreed links (agreed.Sets mapping) = is_mapping links mapping.sets ≡ true
