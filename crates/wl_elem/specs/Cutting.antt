-- Cutting information into pieces (IEEE Std 802.11, 9.4.2, element fragmentation). A piece is an
-- ID, a Length and as many octets. Information of at most 255 octets is one piece. Longer
-- information is cut: the pieces after the first have the ID of a Fragment, each piece but the last
-- has 255 octets, and the last has 1 to 255.
use Rattle.std.specs.Prelude.{◌≡◌, ℕ, ◌<◌, ◌≤◌, List, [], ◌∷◌, ◌++◌, length}
use Rattle.wl_elem.specs.declared.kind.ListKind.{ListKind}
use Rattle.wl_elem.specs.declared.kind.ListKind.TheVariants.{Elements, Subelements}

-- the ID of a Fragment: 242 among elements, 254 among subelements of a Multi-Link element
abbrev pub fragment_id : ListKind → ℕ
fragment_id Elements = 242
fragment_id Subelements = 254

-- each part but the last has 255 octets, a single part 0 to 255, and of several the last 1 to 255
abbrev pub IsCut : List (List ℕ) → Type 0
IsCut [] = ⊥
IsCut (part ∷ []) = length part ≤ 255
IsCut (part ∷ next ∷ parts) = (length part ≡ 255) × (0 < length next) × IsCut (next ∷ parts)

-- the parts in order
abbrev pub joined : List (List ℕ) → List ℕ
joined [] = []
joined (part ∷ parts) = part ++ joined parts

-- one piece as octets
abbrev pub piece : ℕ → List ℕ → List ℕ
piece id octets = id ∷ length octets ∷ octets

-- the parts as Fragments
abbrev pub fragments : ListKind → List (List ℕ) → List ℕ
fragments kind [] = []
fragments kind (part ∷ parts) = piece (fragment_id kind) part ++ fragments kind parts

-- the first part under the ID, the others as Fragments
abbrev pub pieces : ListKind → ℕ → List (List ℕ) → List ℕ
pieces kind id [] = []
pieces kind id (part ∷ parts) = piece id part ++ fragments kind parts

-- the octets are the pieces of the information under this ID
pub record IsWritten (kind : ListKind) (id : ℕ) (information octets : List ℕ) : Type 0 where
  pub parts : List (List ℕ)
  pub cut : IsCut parts
  pub whole : joined parts ≡ information
  pub written : octets ≡ pieces kind id parts
