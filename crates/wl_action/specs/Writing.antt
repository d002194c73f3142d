-- For private contracts alone: the tests of a value, by its parts.
use Rattle.std.specs.Prelude.{◌≡◌, ℕ, ◌+◌, ◌<◌, ◌≤◌, true, false, is_some, List, length, Option}
use Rattle.std.specs.List.{AllByRecursion}
use Rattle.wl_elem.specs.Element.{ElementValue, body_limit}
use Rattle.wl_elem.specs.ElementList.{Elems}
use Rattle.wl_elem.specs.Bits.{has_bit}
use Rattle.wl_elem.specs.Fields.{Fits}
use Rattle.wl_action.specs.declared.action.Action.{Action}
use Rattle.wl_action.specs.declared.action.Action.TheVariants.{MapAsk, MapReply, MapTeardown, Epcs, Eml, ReconfAsk, ReconfReply, AddBaAsk, AddBaReply, DelBa}
use Rattle.wl_action.specs.declared.code.Code.{Code}
use Rattle.wl_action.specs.declared.code.Code.TheVariants as kinds
use Rattle.wl_action.specs.Action.{IsWord, IsLinkStatus, right_numbers, IsRead}

abbrev pub kind_of : Action → Code
kind_of (MapAsk token elements) = kinds.MapAsk
kind_of (MapReply token status elements) = kinds.MapReply
kind_of (MapTeardown rest) = kinds.MapTeardown
kind_of (Epcs action rest) = kinds.Epcs
kind_of (Eml token control links update rest) = kinds.Eml
kind_of (ReconfAsk token elements) = kinds.ReconfAsk
kind_of (ReconfReply token list rest) = kinds.ReconfReply
kind_of (AddBaAsk token params timeout start elements) = kinds.AddBaAsk
kind_of (AddBaReply token status params timeout elements) = kinds.AddBaReply
kind_of (DelBa params reason rest) = kinds.DelBa

-- the numbers have room, as those of the declared types have
abbrev pub IsTyped : Action → Type 0
IsTyped (MapAsk token elements) = token < 256
IsTyped (MapReply token status elements) = (token < 256) × IsWord status
IsTyped (MapTeardown rest) = Unit {0}
IsTyped (Epcs action rest) = Unit {0}
IsTyped (Eml token control links update rest) = (token < 256) × (control < 256) × Fits 2 links × Fits 1 update
IsTyped (ReconfAsk token elements) = token < 256
IsTyped (ReconfReply token list rest) = (token < 256) × AllByRecursion IsLinkStatus list
IsTyped (AddBaAsk token params timeout start elements) = (token < 256) × IsWord params × IsWord timeout × IsWord start
IsTyped (AddBaReply token status params timeout elements) = (token < 256) × IsWord status × IsWord params × IsWord timeout
IsTyped (DelBa params reason rest) = IsWord params × IsWord reason

-- EMLMR is clear, and the optional fields are there as the control says
pub record EmlFits (control : ℕ) (links update : Option ℕ) : Type 0 where
  pub emlsr : has_bit control 2 ≡ false
  pub links_there : is_some links ≡ has_bit control 1
  pub update_there : is_some update ≡ has_bit control 4

-- what else a value is, but for its elements
abbrev pub FieldsFit : Action → Type 0
FieldsFit (Epcs action rest) = (3 ≤ action) × (action ≤ 5)
FieldsFit (Eml token control links update rest) = EmlFits control links update
FieldsFit (ReconfReply token list rest) = length list < 256
FieldsFit _ = Unit {0}

-- there are as many elements as there may be, and each that is to be decoded has a value
pub record AreFit (code : Code) (list : List ElementValue) : Type 0 where
  pub numbers : right_numbers code list ≡ true
  pub read : AllByRecursion (IsRead code) list

-- the list has a spelling, with so many octets before it within the limit
abbrev pub HasRoom : ℕ → List ElementValue → Type 0
HasRoom before list = (elems : List ℕ) × Elems list elems × (before + length elems ≤ body_limit)
