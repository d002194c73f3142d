-- Elements of an identity, and the identities that are never inherited.
use Rattle.std.specs.Prelude.{ℕ, ◌<◌, ◌==◌, IsTrue, IfSome, ◌&&◌, ◌||◌, Bool, List, filter, Option, Some}
use Rattle.std.specs.List.{list_any}
use Rattle.wl_elem.specs.Element.{ElementValue, has_shape}
use Rattle.wl_elem.specs.Cutting.{fragment_id}
use Rattle.wl_elem.specs.Identity.{extended_id, non_inheritance, multi_link, tid_to_link_mapping}
use Rattle.wl_elem.specs.declared.kind.ListKind.TheVariants.{Elements}
pub use Rattle.wl_elem.specs.Identity.{same_ext, has_identity}

-- the elements of this identity, in order
abbrev pub of_identity : ℕ → Option ℕ → List ElementValue → List ElementValue
of_identity id ext list = filter (has_identity id ext) list

-- whether the list has an element of this identity
abbrev pub has_any : ℕ → Option ℕ → List ElementValue → Bool
has_any id ext list = list_any (has_identity id ext) list

-- the identity of the Non-Inheritance element
abbrev pub is_non : ℕ → Option ℕ → Bool
is_non id ext = (id == extended_id) && same_ext ext (Some non_inheritance)

-- Fragment, Non-Inheritance, Multi-Link and TID-To-Link Mapping aren't inherited (IEEE Std
-- 802.11be, 35.3, inheritance in per-STA profiles).
abbrev pub never_inherited : ℕ → Option ℕ → Bool
never_inherited id ext =
    (id == fragment_id Elements) || ((id == extended_id) && (same_ext ext (Some non_inheritance) || same_ext ext (Some multi_link) || same_ext ext (Some tid_to_link_mapping)))

-- an identity of octets that an element can have
pub record IsIdentity (id : ℕ) (ext : Option ℕ) : Type 0 where
  pub shape : IsTrue (has_shape id ext)
  pub small : id < 256
  pub small_ext : IfSome ext (λ x. x < 256)
