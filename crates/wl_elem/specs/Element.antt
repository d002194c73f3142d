-- An element (IEEE Std 802.11, 9.4.2.1): its ID, its Element ID Extension where the ID is 255, and
-- its body.
use Rattle.std.specs.Prelude.{◌≡◌, ℕ, ◌≤◌, ◌==◌, Bool, not, ◌&&◌, IsTrue, List, ◌∷◌, length, Option, Some, None}

pub record ElementValue : Type 0 where
  pub id : ℕ
  pub ext : Option ℕ
  pub body : List ℕ

-- No element has the ID of a Fragment, and an extension is there exactly for ID 255.
abbrev pub has_shape : ℕ → Option ℕ → Bool
has_shape id (Some ext) = id == 255
has_shape id None = not (id == 242) && not (id == 255)

-- the identity is the ID with the extension or none
abbrev pub HasIdentity : ElementValue → ℕ → Option ℕ → Type 0
HasIdentity e id ext = (e.id ≡ id) × (e.ext ≡ ext)

-- the body, with the extension before it where there is one
abbrev pub information_of : Option ℕ → List ℕ → List ℕ
information_of (Some ext) body = ext ∷ body
information_of None body = body

abbrev pub information : ElementValue → List ℕ
information e = information_of e.ext e.body

-- the element has the shape of one
abbrev pub HasShape : ElementValue → Type 0
HasShape e = IsTrue (has_shape e.id e.ext)

-- at most so many octets are handed in as one body
abbrev pub body_limit : ℕ
body_limit = 16777216

-- an MSDU has at most so many octets (IEEE Std 802.11, 9.2.4.8)
abbrev pub msdu_limit : ℕ
msdu_limit = 2304

-- what holds of each element
pub record IsElement (e : ElementValue) : Type 0 where
  pub shape : IsTrue (has_shape e.id e.ext)
  pub bound : length e.body ≤ body_limit
