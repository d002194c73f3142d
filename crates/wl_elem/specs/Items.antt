-- Lists of items (IEEE Std 802.11, 9.4.2, element fragmentation): an item is an ID and octets, which
-- are cut into pieces. Elements are such items, and so are the subelements of a Multi-Link element.
use Rattle.std.specs.Prelude.{◌≡◌, ◌≢◌, ℕ, ◌+◌, ◌*◌, ◌/◌, ◌<◌, nat_le, if◌then◌else◌, ◌⊎◌, true, false, List, [], ◌∷◌, ◌++◌, length}
use Rattle.std.specs.List.{AllByRecursion}
use Rattle.wl_elem.specs.declared.why.Why.{Why}
use Rattle.wl_elem.specs.declared.kind.ListKind.{ListKind}
use Rattle.wl_elem.specs.declared.item.Item.{Item}
use Rattle.wl_elem.specs.Cutting.{fragment_id, IsWritten}
use Rattle.wl_elem.specs.Row.{is_extended, IsCutOff}

-- What holds of each item of such a list: it hasn't the ID of a Fragment, and where its ID has an
-- extension, its octets begin with one.
pub record IsItem (kind : ListKind) (item : Item) : Type 0 where
  pub fresh : item.id ≢ fragment_id kind
  pub extended : is_extended kind item.id ≡ true → 0 < length item.octets

-- the octets are the pieces of the item
pub record SpellsItem (kind : ListKind) (item : Item) (octets : List ℕ) : Type 0 where
  pub fresh : item.id ≢ fragment_id kind
  pub extended : is_extended kind item.id ≡ true → 0 < length item.octets
  pub written : IsWritten kind item.id item.octets octets

-- the octets are the pieces of the items, in order
abbrev pub Items : ListKind → List Item → List ℕ → Type 0
Items kind [] octets = octets ≡ []
Items kind (item ∷ list) octets = (front rest : List ℕ) × (octets ≡ front ++ rest) × SpellsItem kind item front × Items kind list rest

-- the octets are cut into items, or a piece of them is refused
abbrev pub CutOrRefused : ListKind → List ℕ → Type 0
CutOrRefused kind octets = ((list : List Item) × Items kind list octets) ⊎ ((left : ℕ) × (why : Why) × IsCutOff kind false octets left why)

-- new is old with the pieces of the item behind it
abbrev pub AddsItem : ListKind → Item → List ℕ → List ℕ → Type 0
AddsItem kind item old new = (octets : List ℕ) × SpellsItem kind item octets × (new ≡ old ++ octets)

-- the item's ID is an octet, and so is each of its octets
abbrev pub IsOfOctets : Item → Type 0
IsOfOctets item = (item.id < 256) × AllByRecursion (λ octet. octet < 256) item.octets

-- how many octets the pieces of so many octets have: a piece has two more than it holds
abbrev pub written_len : ℕ → ℕ
written_len len = if nat_le len 255 then len + 2 else len + 2 * ((len + 254) / 255)

-- how many octets an item is written in
abbrev pub item_len : Item → ℕ
item_len item = written_len (length item.octets)

-- how many octets a list is written in
abbrev pub items_len : List Item → ℕ
items_len [] = 0
items_len (item ∷ list) = item_len item + items_len list
