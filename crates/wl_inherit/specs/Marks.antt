-- For private contracts alone: tables of identities, and what they say of lists.
use Rattle.std.specs.Prelude.{◌≡◌, ℕ, ◌==◌, ◌&&◌, ◌||◌, not, Bool, false, IsTrue, List, slice_index_or, Option, Some, None}
use Rattle.wl_elem.specs.Element.{ElementValue, has_shape}
use Rattle.wl_elem.specs.Identity.{extended_id}
use Rattle.wl_inherit.specs.declared.identities.Identities.{Identities}
use Rattle.wl_inherit.specs.declared.non_inheritance.NonInheritance.{NonInheritance}
use Rattle.wl_inherit.specs.Identity.{same_ext, has_any, never_inherited}
use Rattle.wl_inherit.specs.Inheritance.{lists, is_listed, Nons}

-- whether the identity is marked
abbrev pub is_marked : Identities → ℕ → Option ℕ → Bool
is_marked t id None = slice_index_or t.ids id false
is_marked t id (Some ext) = (id == extended_id) && slice_index_or t.exts ext false

-- the marks are the old ones and this identity's
pub record Adds (id : ℕ) (ext : Option ℕ) (old new : Identities) : Type 0 where
  pub marks : (other : ℕ) (x : Option ℕ) → is_marked new other x ≡ (is_marked old other x || ((id == other) && same_ext ext x))

-- the marks are the old ones and those of the elements' identities
pub record AddsAll (list : List ElementValue) (old new : Identities) : Type 0 where
  pub marks : (id : ℕ) (ext : Option ℕ) → is_marked new id ext ≡ (is_marked old id ext || has_any id ext list)

-- the marks are the old ones and those of what the value lists
pub record AddsLists (n : NonInheritance) (old new : Identities) : Type 0 where
  pub marks : (id : ℕ) (ext : Option ℕ) → IsTrue (has_shape id ext) → is_marked new id ext ≡ (is_marked old id ext || lists n id ext)

-- the marks are what a profile doesn't inherit
pub record LeavesOut (profile : List ElementValue) (t : Identities) : Type 0 where
  pub nons : List NonInheritance
  pub are : Nons profile nons
  pub marks : (id : ℕ) (ext : Option ℕ) → IsTrue (has_shape id ext) → is_marked t id ext ≡ (never_inherited id ext || (is_listed nons id ext || has_any id ext profile))

-- the test takes just the elements of the list whose identity isn't marked
pub record TakesOthers (test : ElementValue → Bool) (list : List ElementValue) (t : Identities) : Type 0 where
  pub same : (e : ElementValue) → IsTrue (has_shape e.id e.ext) → IsTrue (has_any e.id e.ext list) → test e ≡ not (is_marked t e.id e.ext)
