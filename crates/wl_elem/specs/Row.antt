-- Rows of whole pieces, and the first test that octets behind such a row fail.
use Rattle.std.specs.Prelude.{◌≡◌, ℕ, ◌<◌, ◌≤◌, ◌==◌, nat_lt, Bool, true, false, not, ◌&&◌, if◌then◌else◌, List, [], ◌∷◌, ◌++◌, length, Option, Some, None}
use Rattle.wl_elem.specs.declared.why.Why.{Why}
use Rattle.wl_elem.specs.declared.why.Why.TheVariants.{Truncated, SubTruncated, StrayFragment, EmptyFragment, NoExtension}
use Rattle.wl_elem.specs.declared.kind.ListKind.{ListKind}
use Rattle.wl_elem.specs.declared.kind.ListKind.TheVariants.{Elements, Subelements}
use Rattle.wl_elem.specs.Cutting.{fragment_id, piece}

pub record Piece : Type 0 where
  pub id : ℕ
  pub octets : List ℕ

-- the name for a header or octets that aren't whole
abbrev pub truncated : ListKind → Why
truncated Elements = Truncated
truncated Subelements = SubTruncated

-- whether a piece of this ID begins with an extension: that of ID 255 in an element list
abbrev pub is_extended : ListKind → ℕ → Bool
is_extended Elements id = id == 255
is_extended Subelements id = false

-- the Length after which a Fragment continues a piece
abbrev pub is_full : List ℕ → Bool
is_full octets = length octets == 255

-- A whole piece. `full` says whether the piece directly before it has Length 255: a Fragment follows
-- no other. A Fragment isn't empty, and a piece with an extension has it.
pub record IsPiece (kind : ListKind) (full : Bool) (p : Piece) : Type 0 where
  pub short : length p.octets ≤ 255
  pub continued : p.id ≡ fragment_id kind → (full ≡ true) × (0 < length p.octets)
  pub extended : is_extended kind p.id ≡ true → 0 < length p.octets

-- whole pieces one after the other
abbrev pub IsRow : ListKind → Bool → List Piece → Type 0
IsRow kind full [] = Unit {0}
IsRow kind full (p ∷ row) = IsPiece kind full p × IsRow kind (is_full p.octets) row

-- the octets of a row
abbrev pub row_text : List Piece → List ℕ
row_text [] = []
row_text (p ∷ row) = piece p.id p.octets ++ row_text row

-- whether the last piece of a row has Length 255
abbrev pub full_after : Bool → List Piece → Bool
full_after full [] = full
full_after full (p ∷ row) = full_after (is_full p.octets) row

-- The first test that the octets fail, in the order of the tests. None where none is failed or no
-- octets are left.
unfoldable pub fault_at : ListKind → Bool → List ℕ → Option Why
fault_at kind full [] = None
fault_at kind full (id ∷ []) = Some (truncated kind)
fault_at kind full (id ∷ len ∷ rest) =
    if id == fragment_id kind && not full then Some StrayFragment
    else if id == fragment_id kind && (len == 0) then Some EmptyFragment
    else if is_extended kind id && (len == 0) then Some NoExtension
    else if nat_lt (length rest) len then Some (truncated kind)
    else None

-- The input is refused: behind a row of whole pieces the octets fail a test. `left` octets are left
-- there.
pub record IsCutOff (kind : ListKind) (full : Bool) (octets : List ℕ) (left : ℕ) (why : Why) : Type 0 where
  pub row : List Piece
  pub rest : List ℕ
  pub is_row : IsRow kind full row
  pub split : octets ≡ row_text row ++ rest
  pub counted : left ≡ length rest
  pub fault : fault_at kind (full_after full row) rest ≡ Some why
