-- Shrinking a profile's full list to what it has to carry (IEEE Std 802.11be, 35.3): an element is
-- left out where the frame has the same elements of its identity, and what the frame has and the
-- list doesn't is listed in one Non-Inheritance element.
use Rattle.std.specs.Prelude.{◌≡◌, ℕ, ◌+◌, ◌<◌, ◌==◌, ◌&&◌, ◌||◌, not, nat_eq, Bool, List, [], ◌∷◌, ◌++◌, length, filter, Option, Some, None, Result, Ok}
use Rattle.std.specs.List.{range_with_len}
use Rattle.std.specs.Cmp.Lexicographic.{pointwise}
use Rattle.wl_elem.specs.declared.fault.Refusal.{Refusal}
use Rattle.wl_elem.specs.Element.{ElementValue}
use Rattle.wl_elem.specs.Identity.{extended_id, non_inheritance}
use Rattle.wl_inherit.specs.declared.shrunk.ShrinkFault.{ShrinkFault}
use Rattle.wl_inherit.specs.declared.shrunk.ShrinkFault.TheVariants as faults
use Rattle.wl_inherit.specs.NonInheritance.{spelling}
use Rattle.wl_inherit.specs.Identity.{same_ext, of_identity, has_any, never_inherited}
use Rattle.wl_inherit.specs.Inheritance.{ExpandsAs}

-- whether two elements have one identity and one body
abbrev pub same_element : ElementValue → ElementValue → Bool
same_element a b = (a.id == b.id) && same_ext a.ext b.ext && pointwise nat_eq a.body b.body

-- whether two lists have the same elements, in order
abbrev pub same_elements : List ElementValue → List ElementValue → Bool
same_elements list other = pointwise same_element list other

-- whether an element of the full list is carried: it is never inherited, or the frame's elements of
-- its identity are others
abbrev pub is_kept : List ElementValue → List ElementValue → ElementValue → Bool
is_kept outer full e = never_inherited e.id e.ext || not (same_elements (of_identity e.id e.ext outer) (of_identity e.id e.ext full))

-- whether the frame has an identity that could be inherited and that the full list doesn't have
abbrev pub is_dropped : List ElementValue → List ElementValue → ℕ → Option ℕ → Bool
is_dropped outer full id ext = has_any id ext outer && not (never_inherited id ext) && not (has_any id ext full)

-- the numbers from 0 to 255
unfoldable pub octet_values : List ℕ
octet_values = range_with_len 0 256

-- the IDs and the extensions of what is dropped, and how many they are together
abbrev pub dropped_ids : List ElementValue → List ElementValue → List ℕ
dropped_ids outer full = filter (λ id. is_dropped outer full id None) octet_values

abbrev pub dropped_exts : List ElementValue → List ElementValue → List ℕ
dropped_exts outer full = filter (λ ext. is_dropped outer full extended_id (Some ext)) octet_values

abbrev pub dropped_count : List ElementValue → List ElementValue → ℕ
dropped_count outer full = length (dropped_ids outer full) + length (dropped_exts outer full)

-- the Non-Inheritance element of these lists, where one of them isn't empty
abbrev pub exclusion : List ℕ → List ℕ → List ElementValue
exclusion [] [] = []
exclusion ids exts = record { id = extended_id; ext = Some non_inheritance; body = spelling (record { ids = ids; exts = exts; tail = [] }) } ∷ []

-- what is carried
abbrev pub shrunk : List ElementValue → List ElementValue → List ElementValue
shrunk outer full = filter (is_kept outer full) full ++ exclusion (dropped_ids outer full) (dropped_exts outer full)

-- Within the frame the list is expanded, and only so, to a list that has the full one's elements of
-- each identity, in order.
pub record IsRegained (outer full list : List ElementValue) : Type 0 where
  pub again : List ElementValue
  pub reads : ExpandsAs outer list (Ok again)
  pub only : (reading : Result (List ElementValue) Refusal) → ExpandsAs outer list reading → reading ≡ Ok again
  pub same : (id : ℕ) (ext : Option ℕ) → of_identity id ext again ≡ of_identity id ext full

-- so many identities are dropped, more than one element lists
abbrev pub IsTooMany : List ElementValue → List ElementValue → ShrinkFault → Type 0
IsTooMany outer full (faults.TooMany n) = (n ≡ dropped_count outer full) × (252 < n)
IsTooMany outer full faults.Memory = Unit {0}
