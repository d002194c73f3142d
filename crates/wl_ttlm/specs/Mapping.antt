-- Mappings of TIDs to links in one direction (IEEE Std 802.11be, 35.3.7): by TID, the bitmap of the links
-- that frames of the TID may go over.
use Rattle.std.specs.Prelude.{◌≡◌, ℕ, ◌<◌, ◌==◌, ◌&&◌, not, bit_and, Bool, true, List, [], ◌∷◌, All}
use Rattle.std.specs.List.{list_all}
use Rattle.wl_elem.specs.Links.{link_limit, has_link, IsSubset}

-- TIDs of data are 0 to 7
abbrev pub tid_count : ℕ
tid_count = 8

-- every TID on each of these links
abbrev pub default_over : ℕ → List ℕ
default_over links = links ∷ links ∷ links ∷ links ∷ links ∷ links ∷ links ∷ links ∷ []

-- a TID on this set of links has a link, and only links that are set up
pub record IsTidSet (links set : ℕ) : Type 0 where
  pub some : (link : ℕ) × (link < link_limit) × (has_link set link ≡ true)
  pub only : IsSubset set links

-- each TID has a link, and only links that are set up
abbrev pub IsMapping : ℕ → List ℕ → Type 0
IsMapping links sets = All (IsTidSet links) sets

-- the test of `IsTidSet` on bitmaps
abbrev pub is_tid_set : ℕ → ℕ → Bool
is_tid_set links set = not (set == 0) && bit_and set links == set

-- the test of `IsMapping` on bitmaps
abbrev pub is_mapping : ℕ → List ℕ → Bool
is_mapping links sets = list_all (is_tid_set links) sets
