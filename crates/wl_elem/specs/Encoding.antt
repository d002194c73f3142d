-- For private contracts alone, but for `HasLength` and `IsWithin`: writing element lists and
-- pieces.
use Rattle.std.specs.Prelude.{◌≡◌, ◌≤◌, ℕ, List, [], ◌∷◌, ◌++◌, length}
use Rattle.wl_elem.specs.declared.kind.ListKind.{ListKind}
use Rattle.wl_elem.specs.Cutting.{IsCut, joined, fragments, IsWritten}
use Rattle.wl_elem.specs.Element.{ElementValue}
use Rattle.wl_elem.specs.ElementList.{Spells, Elems}

-- the list is written in so many octets
abbrev pub HasLength : List ElementValue → ℕ → Type 0
HasLength list len = (octets : List ℕ) → Elems list octets → length octets ≡ len

-- the list is written in at most so many octets
abbrev pub IsWithin : List ElementValue → ℕ → Type 0
IsWithin list most = (octets : List ℕ) → Elems list octets → length octets ≤ most

-- the element is written in so many octets
abbrev pub HasElementLength : ElementValue → ℕ → Type 0
HasElementLength e len = (octets : List ℕ) → Spells e octets → length octets ≡ len

-- new is old with the pieces of the element behind it
abbrev pub AddsElement : ElementValue → List ℕ → List ℕ → Type 0
AddsElement e old new = (octets : List ℕ) × Spells e octets × (new ≡ old ++ octets)

-- new begins with old
abbrev pub Extends : List ℕ → List ℕ → Type 0
Extends old new = (more : List ℕ) × (new ≡ old ++ more)

-- new is old with these octets as Fragments behind it, which may follow a full piece
pub record AddsFragments (kind : ListKind) (octets old new : List ℕ) : Type 0 where
  pub parts : List (List ℕ)
  pub whole : joined parts ≡ octets
  pub written : new ≡ old ++ fragments kind parts
  pub cut : (p : List ℕ) → length p ≡ 255 → IsCut (p ∷ parts)
  pub none : octets ≡ [] → parts ≡ []

-- new is old with the pieces of this information under this ID behind it
abbrev pub AddsPieces : ListKind → ℕ → List ℕ → List ℕ → List ℕ → Type 0
AddsPieces kind id information old new = (octets : List ℕ) × IsWritten kind id information octets × (new ≡ old ++ octets)
