-- For private contracts alone: reading the fields of a kind, which are whole, and the list behind
-- them.
use Rattle.std.specs.Prelude.{◌≡◌, ℕ, zero, suc, ◌+◌, ◌*◌, Bool, true, false, List, [], ◌∷◌, drop, slice_index, Option, Some, None, Result, Ok, Err}
use Rattle.std.specs.List.{AllByRecursion}
use Rattle.wl_elem.specs.declared.fault.Refusal.{Refusal}
use Rattle.wl_elem.specs.declared.known.Known.{Known}
use Rattle.wl_elem.specs.Element.{ElementValue}
use Rattle.wl_elem.specs.ElementList.{Elems}
use Rattle.wl_elem.specs.Bits.{has_bit}
use Rattle.wl_elem.specs.Fields.{width_if, word_at, total}
use Rattle.wl_action.specs.declared.action.Action.{Action}
use Rattle.wl_action.specs.declared.action.Action.TheVariants.{MapAsk, MapReply, MapTeardown, Epcs, Eml, ReconfAsk, ReconfReply, AddBaAsk, AddBaReply, DelBa}
use Rattle.wl_action.specs.declared.code.Code.{Code}
use Rattle.wl_action.specs.declared.code.Code.TheVariants as kinds
use Rattle.wl_action.specs.declared.statuses.LinkStatus.{LinkStatus}
use Rattle.wl_action.specs.Action.{is_known, code_of, widths, has_elements, field_fault, right_numbers, decodes, HasValue, HasNone, IsRead, FirstRefused, ListRefused, RefusedList}

-- a number, where it is there
abbrev pub some_if : Bool → ℕ → Option ℕ
some_if true n = Some n
some_if false n = None

-- so many links with their statuses
unfoldable pub statuses_in : ℕ → List ℕ → List LinkStatus
statuses_in zero octets = []
statuses_in (suc count) octets = record { link = slice_index octets 0; status = word_at octets 1 } ∷ statuses_in count (drop 3 octets)

-- how many octets the links and the update take
abbrev pub links_width : List ℕ → ℕ
links_width rest = width_if (has_bit (slice_index rest 1) 1) 2

abbrev pub update_width : List ℕ → ℕ
update_width rest = width_if (has_bit (slice_index rest 1) 4) 1

-- the value of these octets behind the two, and of these elements
abbrev pub made : Code → ℕ → List ℕ → List ElementValue → Action
made kinds.MapAsk action rest list = MapAsk (slice_index rest 0) list
made kinds.MapReply action rest list = MapReply (slice_index rest 0) (word_at rest 1) list
made kinds.MapTeardown action rest list = MapTeardown rest
made kinds.Epcs action rest list = Epcs action rest
made kinds.Eml action rest list =
    Eml (slice_index rest 0) (slice_index rest 1) (some_if (has_bit (slice_index rest 1) 1) (word_at rest 2))
    (some_if (has_bit (slice_index rest 1) 4) (slice_index rest (2 + links_width rest))) (drop (2 + links_width rest + update_width rest) rest)
made kinds.ReconfAsk action rest list = ReconfAsk (slice_index rest 0) list
made kinds.ReconfReply action rest list = ReconfReply (slice_index rest 0) (statuses_in (slice_index rest 1) (drop 2 rest)) (drop (2 + 3 * slice_index rest 1) rest)
made kinds.AddBaAsk action rest list = AddBaAsk (slice_index rest 0) (word_at rest 1) (word_at rest 3) (word_at rest 5) list
made kinds.AddBaReply action rest list = AddBaReply (slice_index rest 0) (word_at rest 1) (word_at rest 3) (word_at rest 5) list
made kinds.DelBa action rest list = DelBa (word_at rest 0) (word_at rest 2) (drop 4 rest)

-- the octets are these elements, as many as there may be, and each that is to be decoded has a value
pub record IsListed (code : Code) (octets : List ℕ) (list : List ElementValue) : Type 0 where
  pub elems : Elems list octets
  pub numbers : right_numbers code list ≡ true
  pub read : AllByRecursion (IsRead code) list

-- the octets read as a list behind the fields of this code, or as refused
abbrev pub ListAs : Code → ℕ → List ℕ → Result (List ElementValue) Refusal → Type 0
ListAs code offset octets (Ok list) = IsListed code octets list
ListAs code offset octets (Err refusal) = ListRefused code octets offset refusal

-- the first that isn't decoded, or none
abbrev pub FirstAs : Code → ℕ → List ElementValue → Option Refusal → Type 0
FirstAs code i list None = AllByRecursion (IsRead code) list
FirstAs code i list (Some refusal) = FirstRefused code i list refusal

-- the value is made of the octets behind the two
abbrev pub IsMade : Bool → Code → ℕ → List ℕ → Action → Type 0
IsMade true code action rest value = (list : List ElementValue) × IsListed code (drop (total (widths code)) rest) list × (value ≡ made code action rest list)
IsMade false code action rest value = value ≡ made code action rest []

abbrev pub BehindAs : Code → ℕ → List ℕ → Result Action Refusal → Type 0
BehindAs code action rest (Ok value) = IsMade (has_elements code) code action rest value
BehindAs code action rest (Err refusal) = RefusedList (has_elements code) code rest refusal

-- the body begins with the two octets of a kind, and the fields behind them are whole
pub record IsHead (body : List ℕ) (code : Code) (action : ℕ) (rest : List ℕ) : Type 0 where
  pub category : ℕ
  pub text : body ≡ category ∷ action ∷ rest
  pub known : is_known category ≡ true
  pub coded : code_of category action ≡ Some code
  pub free : field_fault code rest ≡ None

-- what is answered of one element, where these are decoded
abbrev pub KnownAs : Option Known → ElementValue → Option Refusal → Type 0
KnownAs decoded e None = HasValue decoded e
KnownAs decoded e (Some refusal) = HasNone decoded e refusal

abbrev pub ItemAs : Code → ElementValue → Option Refusal → Type 0
ItemAs code e refusal = KnownAs (decodes code) e refusal
