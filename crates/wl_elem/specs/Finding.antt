-- The first element of an identity.
use Rattle.std.specs.Prelude.{◌≡◌, ℕ, ◌≤◌, ◌<◌, List, length, Option, Some, None, slice_get}
use Rattle.wl_elem.specs.Element.{ElementValue, HasIdentity}

-- the element at the index has this identity
abbrev pub IsAt : List ElementValue → ℕ → Option ℕ → ℕ → Type 0
IsAt list id ext i = (e : ElementValue) × (slice_get list i ≡ Some e) × HasIdentity e id ext

-- no index from `from` to below `to` has this identity
abbrev pub NoneBetween : List ElementValue → ℕ → Option ℕ → ℕ → ℕ → Type 0
NoneBetween list id ext from to = (k : ℕ) → from ≤ k → k < to → IsAt list id ext k → ⊥

-- the least index from `from` with this identity, or none at all
abbrev pub IsFirst : List ElementValue → ℕ → Option ℕ → ℕ → Option ℕ → Type 0
IsFirst list id ext from (Some i) = (from ≤ i) × (i < length list) × IsAt list id ext i × NoneBetween list id ext from i
IsFirst list id ext from None = NoneBetween list id ext from (length list)
