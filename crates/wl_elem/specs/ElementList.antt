-- Element lists (IEEE Std 802.11, 9.4.2): the octets are the pieces of the elements, in order.
use Rattle.std.specs.Prelude.{◌≡◌, ℕ, ◌+◌, false, IsTrue, List, [], ◌∷◌, ◌++◌, length, Result, Ok, Err}
use Rattle.wl_elem.specs.declared.fault.Refusal.{Refusal}
use Rattle.wl_elem.specs.declared.kind.ListKind.TheVariants.{Elements}
use Rattle.wl_elem.specs.Answers.{refusal_at}
use Rattle.wl_elem.specs.Cutting.{IsWritten}
use Rattle.wl_elem.specs.Element.{ElementValue, has_shape, information}
use Rattle.wl_elem.specs.Row.{IsCutOff}

-- the octets are the pieces of the element
pub record Spells (e : ElementValue) (octets : List ℕ) : Type 0 where
  pub shape : IsTrue (has_shape e.id e.ext)
  pub written : IsWritten Elements e.id (information e) octets

-- the octets are those of the elements, in order
abbrev pub Elems : List ElementValue → List ℕ → Type 0
Elems [] octets = octets ≡ []
Elems (e ∷ list) octets = (front rest : List ℕ) × (octets ≡ front ++ rest) × Spells e front × Elems list rest

-- The octets are refused: behind a row of whole pieces, at the refusal's place, they fail a test.
pub record ElemsRefused (octets : List ℕ) (refusal : Refusal) : Type 0 where
  pub place : ℕ
  pub left : ℕ
  pub split : place + left ≡ length octets
  pub cut_off : IsCutOff Elements false octets left refusal.why
  pub is_at : refusal ≡ refusal_at place refusal.why

-- the octets read as a list, or as refused
abbrev pub ReadAs : List ℕ → Result (List ElementValue) Refusal → Type 0
ReadAs octets (Ok list) = Elems list octets
ReadAs octets (Err refusal) = ElemsRefused octets refusal
