-- Lists of subelements. The laws of cutting are contracts of functions of wl_elem: a function whose
-- proof needs one calls it, and its proof hands the law on under these names.
use Rattle.std.proofs.Common.{◌≡◌, ◌≢◌, ℕ, false, List, [], ◌∷◌, length}
use Rattle.std.specs.List.{AllByRecursion}
use Rattle.wl_elem.specs.declared.why.Why.{Why}
use Rattle.wl_elem.specs.declared.kind.ListKind.{ListKind}
use Rattle.wl_elem.specs.declared.kind.ListKind.TheVariants.{Subelements}
use Rattle.wl_elem.specs.declared.item.Item.{Item}
use Rattle.wl_elem.specs.Items.{IsItem, Items, CutOrRefused, IsOfOctets, items_len}
use Rattle.wl_elem.specs.Row.{IsCutOff}
use Rattle.wl_elem.proofs.Octets.{IsOctets}

-- ---- the laws

-- octets are cut into one list
abbrev pub CutsOnce : Type 0
CutsOnce = (kind : ListKind) (list other : List Item) (octets : List ℕ) → Items kind list octets → Items kind other octets → list ≡ other

-- what is cut isn't refused
abbrev pub CutsOrRefusesOnly : Type 0
CutsOrRefusesOnly = (kind : ListKind) (list : List Item) (octets : List ℕ) (left : ℕ) (why : Why) → Items kind list octets → IsCutOff kind false octets left why → ⊥

-- octets are refused at one place, with one name
abbrev pub RefusesOnce : Type 0
RefusesOnce = (kind : ListKind) (octets : List ℕ) (a b : ℕ) (v w : Why) → IsCutOff kind false octets a v → IsCutOff kind false octets b w → (a ≡ b) × (v ≡ w)

-- these three: octets are cut or refused in one way
pub record CutsInOneWay : Type 0 where
  pub list : CutsOnce
  pub not_both : CutsOrRefusesOnly
  pub refusal : RefusesOnce

-- all octets are cut or refused
abbrev pub CutsOrRefuses : Type 0
CutsOrRefuses = (kind : ListKind) (octets : List ℕ) → IsOctets octets → CutOrRefused kind octets

-- the items of octets are of octets
abbrev pub CutsOctets : Type 0
CutsOctets = (kind : ListKind) (list : List Item) (octets : List ℕ) → IsOctets octets → Items kind list octets → AllByRecursion IsOfOctets list

-- a list has one spelling
abbrev pub SpellsOnce : Type 0
SpellsOnce = (kind : ListKind) (list : List Item) (octets other : List ℕ) → Items kind list octets → Items kind list other → octets ≡ other

-- each list has a spelling
abbrev pub SpellsAll : Type 0
SpellsAll = (kind : ListKind) (list : List Item) → AllByRecursion (IsItem kind) list → (octets : List ℕ) × Items kind list octets

-- how long it is
abbrev pub SpellsSoLong : Type 0
SpellsSoLong = (kind : ListKind) (list : List Item) (octets : List ℕ) → Items kind list octets → length octets ≡ items_len list

-- ---- subelements of octets

-- the ID isn't a Fragment's, and the octets are octets
pub record IsSub (s : Item) : Type 0 where
  pub fresh : s.id ≢ 254
  pub octets : IsOctets s.octets

subs_from : (list : List Item) (octets : List ℕ) → AllByRecursion IsOfOctets list → Items Subelements list octets → AllByRecursion IsSub list
subs_from [] octets are cut = tt
subs_from (s ∷ list) octets are (front, rest, split, w, more) = (record { fresh = w.fresh; octets = are.0.1 }, subs_from list rest are.1 more)

pub are_subs : CutsOctets → (list : List Item) (octets : List ℕ) → IsOctets octets → Items Subelements list octets → AllByRecursion IsSub list
are_subs law list octets is cut = subs_from list octets (law Subelements list octets is cut) cut
