-- Bodies of Action frames: Protected EHT (IEEE Std 802.11be, 9.6.35) and Block Ack (IEEE Std 802.11,
-- 9.6.4).
--
-- | category, action | kind        | fields behind the two octets, with their octets                   |
-- |------------------|-------------|-------------------------------------------------------------------|
-- | 37, 0            | MapAsk      | token 1, elements                                                 |
-- | 37, 1            | MapReply    | token 1, status 2, elements                                       |
-- | 37, 2            | MapTeardown | rest                                                              |
-- | 37, 3 to 5       | Epcs        | rest                                                              |
-- | 37, 6            | Eml         | token 1, control 1, links 2 where B0 of control, update 1 where B2, rest |
-- | 37, 11           | ReconfAsk   | token 1, elements                                                 |
-- | 37, 12           | ReconfReply | token 1, count 1, so many times link 1 and status 2, rest         |
-- | 3, 0             | AddBaAsk    | token 1, params 2, timeout 2, start 2, elements                   |
-- | 3, 1             | AddBaReply  | token 1, status 2, params 2, timeout 2, elements                  |
-- | 3, 2             | DelBa       | params 2, reason 2, rest                                          |
--
-- EML control: EMLSR mode B0, EMLMR mode B1, parameter update B2. `elements` is an element list up to
-- the end of the body, `rest` the octets up to there. Numbers have their lowest octet first.
use Rattle.std.specs.Prelude.{◌≡◌, ℕ, zero, suc, ◌+◌, ◌-◌, ◌%◌, ◌<◌, ◌≤◌, ◌==◌, ◌⊎◌, ◌&&◌, ◌||◌, nat_le, if◌then◌else◌, is_some, Bool, true, false, List, [], ◌∷◌, ◌++◌, length, drop, slice_index, count_by, Option, Some, None, Result, Ok, Err}
use Rattle.std.specs.List.{AllByRecursion}
use Rattle.wl_elem.specs.declared.why.Why.{Why}
use Rattle.wl_elem.specs.declared.why.Why.TheVariants.{Truncated, UnknownCategory, UnknownAction, EmlmrLeftOut, NoMapping, NoMultiLink}
use Rattle.wl_elem.specs.declared.fault.Refusal.{Refusal}
use Rattle.wl_elem.specs.Answers.{refusal_at, in_element, moved}
use Rattle.wl_elem.specs.Element.{ElementValue, body_limit}
use Rattle.wl_elem.specs.ElementList.{Elems, ElemsRefused}
use Rattle.wl_elem.specs.Octets.{octets_of}
use Rattle.wl_ttlm.specs.declared.ttlm.Ttlm.{Ttlm}
use Rattle.wl_elem.specs.Bits.{has_bit}
use Rattle.wl_elem.specs.Fields.{field, Fits, first_cut, width_if, total}
use Rattle.wl_ttlm.specs.Ttlm.{TtlmOf, TtlmRefused}
use Rattle.wl_mle.specs.declared.multi_link.MultiLink.{MultiLink}
use Rattle.wl_mle.specs.declared.multi_link.MultiLink.TheVariants.{Reconfiguration}
use Rattle.wl_mle.specs.declared.reconf.Reconf.{Reconf}
use Rattle.wl_mle.specs.Fields.{word_of}
use Rattle.wl_mle.specs.MultiLink.{MlOf, MlRefused}
use Rattle.wl_action.specs.declared.action.Action.{Action}
use Rattle.wl_action.specs.declared.action.Action.TheVariants.{MapAsk, MapReply, MapTeardown, Epcs, Eml, ReconfAsk, ReconfReply, AddBaAsk, AddBaReply, DelBa}
use Rattle.wl_action.specs.declared.code.Code.{Code}
use Rattle.wl_action.specs.declared.code.Code.TheVariants as kinds
use Rattle.wl_action.specs.declared.statuses.LinkStatus.{LinkStatus}
use Rattle.wl_elem.specs.declared.known.Known.{Known}
use Rattle.wl_elem.specs.declared.known.Known.TheVariants.{TidToLinkMapping, MultiLink as MultiLinks}
use Rattle.wl_elem.specs.Identity.{is_mapping, is_multi_link}

-- ---- values

-- the status of each link
abbrev pub statuses : List LinkStatus → List ℕ
statuses [] = []
statuses (s ∷ list) = s.link ∷ (octets_of 2 s.status ++ statuses list)

-- the octets before the elements, which are the whole body where there are none
abbrev pub front : Action → List ℕ
front (MapAsk token elements) = 37 ∷ 0 ∷ token ∷ []
front (MapReply token status elements) = 37 ∷ 1 ∷ token ∷ octets_of 2 status
front (MapTeardown rest) = 37 ∷ 2 ∷ rest
front (Epcs action rest) = 37 ∷ action ∷ rest
front (Eml token control links update rest) = 37 ∷ 6 ∷ token ∷ control ∷ (field 2 links ++ (field 1 update ++ rest))
front (ReconfAsk token elements) = 37 ∷ 11 ∷ token ∷ []
front (ReconfReply token list rest) = 37 ∷ 12 ∷ token ∷ length list ∷ (statuses list ++ rest)
front (AddBaAsk token params timeout start elements) = 3 ∷ 0 ∷ token ∷ (octets_of 2 params ++ (octets_of 2 timeout ++ octets_of 2 start))
front (AddBaReply token status params timeout elements) = 3 ∷ 1 ∷ token ∷ (octets_of 2 status ++ (octets_of 2 params ++ octets_of 2 timeout))
front (DelBa params reason rest) = 3 ∷ 2 ∷ (octets_of 2 params ++ (octets_of 2 reason ++ rest))

abbrev pub elements_of : Action → List ElementValue
elements_of (MapAsk token elements) = elements
elements_of (MapReply token status elements) = elements
elements_of (MapTeardown rest) = []
elements_of (Epcs action rest) = []
elements_of (Eml token control links update rest) = []
elements_of (ReconfAsk token elements) = elements
elements_of (ReconfReply token list rest) = []
elements_of (AddBaAsk token params timeout start elements) = elements
elements_of (AddBaReply token status params timeout elements) = elements
elements_of (DelBa params reason rest) = []

abbrev pub IsWord : ℕ → Type 0
IsWord n = Fits 2 (Some n)

pub record IsLinkStatus (s : LinkStatus) : Type 0 where
  pub link : s.link < 256
  pub status : IsWord s.status

-- the fields of an EML notice
pub record IsEml (token control : ℕ) (links update : Option ℕ) : Type 0 where
  pub token_fits : token < 256
  pub control_fits : control < 256
  -- EMLMR is left out
  pub emlsr : has_bit control 2 ≡ false
  pub links_fit : Fits 2 links
  pub update_fits : Fits 1 update
  pub links_there : is_some links ≡ has_bit control 1
  pub update_there : is_some update ≡ has_bit control 4

-- where it is a mapping element, it has a value
abbrev pub HasMapping : ElementValue → Type 0
HasMapping e = is_mapping e ≡ true → (t : Ttlm) × TtlmOf t e.body

-- where it is a Multi-Link element, it has a value
abbrev pub HasMultiLink : ElementValue → Type 0
HasMultiLink e = is_multi_link e ≡ true → (value : MultiLink) × MlOf value e.body

-- where it is a Multi-Link element, it is a Reconfiguration one and has a value
abbrev pub HasReconf : ElementValue → Type 0
HasReconf e = is_multi_link e ≡ true → (r : Reconf) × MlOf (Reconfiguration r) e.body

-- what has a body, as far as its fields and its elements go
abbrev pub IsAction : Action → Type 0
IsAction (MapAsk token elements) = (token < 256) × (1 ≤ count_by is_mapping elements) × (count_by is_mapping elements ≤ 2) × AllByRecursion HasMapping elements
IsAction (MapReply token status elements) = (token < 256) × IsWord status × (count_by is_mapping elements ≤ 2) × AllByRecursion HasMapping elements
IsAction (MapTeardown rest) = Unit {0}
IsAction (Epcs action rest) = (3 ≤ action) × (action ≤ 5)
IsAction (Eml token control links update rest) = IsEml token control links update
IsAction (ReconfAsk token elements) = (token < 256) × (count_by is_multi_link elements ≡ 1) × AllByRecursion HasReconf elements
IsAction (ReconfReply token list rest) = (token < 256) × (length list < 256) × AllByRecursion IsLinkStatus list
IsAction (AddBaAsk token params timeout start elements) = (token < 256) × IsWord params × IsWord timeout × IsWord start
IsAction (AddBaReply token status params timeout elements) = (token < 256) × IsWord status × IsWord params × IsWord timeout
IsAction (DelBa params reason rest) = IsWord params × IsWord reason

-- the body is this value's
pub record ActionOf (value : Action) (body : List ℕ) : Type 0 where
  pub is_value : IsAction value
  pub elems : List ℕ
  pub list : Elems (elements_of value) elems
  pub text : body ≡ front value ++ elems

-- some body that is handed in as one is this value's
abbrev pub IsWritable : Action → Type 0
IsWritable value = (body : List ℕ) × (length body ≤ body_limit) × ActionOf value body

-- ---- the table of kinds

abbrev pub is_known : ℕ → Bool
is_known category = (category == 37) || (category == 3)

abbrev pub protected_code : ℕ → Option Code
protected_code action =
    if action == 0 then Some kinds.MapAsk
    else if action == 1 then Some kinds.MapReply
    else if action == 2 then Some kinds.MapTeardown
    else if nat_le action 5 then Some kinds.Epcs
    else if action == 6 then Some kinds.Eml
    else if action == 11 then Some kinds.ReconfAsk
    else if action == 12 then Some kinds.ReconfReply
    else None

abbrev pub block_ack_code : ℕ → Option Code
block_ack_code action =
    if action == 0 then Some kinds.AddBaAsk
    else if action == 1 then Some kinds.AddBaReply
    else if action == 2 then Some kinds.DelBa
    else None

abbrev pub code_of : ℕ → ℕ → Option Code
code_of category action = if category == 37 then protected_code action else if category == 3 then block_ack_code action else None

-- the fields that are always there behind the two octets
abbrev pub widths : Code → List ℕ
widths kinds.MapAsk = 1 ∷ []
widths kinds.MapReply = 1 ∷ 2 ∷ []
widths kinds.MapTeardown = []
widths kinds.Epcs = []
widths kinds.Eml = 1 ∷ 1 ∷ []
widths kinds.ReconfAsk = 1 ∷ []
widths kinds.ReconfReply = 1 ∷ 1 ∷ []
widths kinds.AddBaAsk = 1 ∷ 2 ∷ 2 ∷ 2 ∷ []
widths kinds.AddBaReply = 1 ∷ 2 ∷ 2 ∷ 2 ∷ []
widths kinds.DelBa = 2 ∷ 2 ∷ []

-- a link and a status, so many times
abbrev pub entry_widths : ℕ → List ℕ
entry_widths zero = []
entry_widths (suc count) = 1 ∷ 2 ∷ entry_widths count

-- the fields behind those, by what they say
abbrev pub more_widths : Code → List ℕ → List ℕ
more_widths kinds.Eml rest = width_if (has_bit (slice_index rest 1) 1) 2 ∷ width_if (has_bit (slice_index rest 1) 4) 1 ∷ []
more_widths kinds.ReconfReply rest = entry_widths (slice_index rest 1)
more_widths _ rest = []

abbrev pub has_elements : Code → Bool
has_elements kinds.MapAsk = true
has_elements kinds.MapReply = true
has_elements kinds.ReconfAsk = true
has_elements kinds.AddBaAsk = true
has_elements kinds.AddBaReply = true
has_elements _ = false

-- ---- refusals before the elements

-- an EML notice whose control has the EMLMR bit
abbrev pub is_emlmr : Code → List ℕ → Bool
is_emlmr kinds.Eml rest = has_bit (slice_index rest 1) 2
is_emlmr _ rest = false

-- a field that isn't whole is refused at its place, which is counted from the front
abbrev pub cut_fault : ℕ → Option ℕ → Option Refusal → Option Refusal
cut_fault len (Some left) other = Some (refusal_at (len - left) Truncated)
cut_fault len None other = other

-- the first test of the fields that fails, behind the two octets
abbrev pub field_fault : Code → List ℕ → Option Refusal
field_fault code rest =
    cut_fault (2 + length rest) (first_cut (widths code) (length rest))
    (if is_emlmr code rest then Some (refusal_at 3 EmlmrLeftOut) else cut_fault (2 + length rest) (first_cut (widths code ++ more_widths code rest) (length rest)) None)

abbrev pub code_fault : Option Code → List ℕ → Option Refusal
code_fault (Some code) rest = field_fault code rest
code_fault None rest = Some (refusal_at 1 UnknownAction)

-- the first test up to the elements that the body fails
abbrev pub head_fault : List ℕ → Option Refusal
head_fault [] = Some (refusal_at 0 Truncated)
head_fault (category ∷ []) = if is_known category then Some (refusal_at 1 Truncated) else Some (refusal_at 0 UnknownCategory)
head_fault (category ∷ action ∷ rest) = if is_known category then code_fault (code_of category action) rest else Some (refusal_at 0 UnknownCategory)

-- ---- refusals of the elements

-- the type of a control word, its low three bits, is that of Reconfiguration
abbrev pub is_reconf : List ℕ → Bool
is_reconf body = nat_le 2 (length body) && (word_of body % 8 == 2)

abbrev pub is_reconf_link : ElementValue → Bool
is_reconf_link e = is_multi_link e && is_reconf e.body

-- whether there are as many of the elements as there may be
abbrev pub right_numbers : Code → List ElementValue → Bool
right_numbers kinds.MapAsk list = nat_le 1 (count_by is_mapping list) && nat_le (count_by is_mapping list) 2
right_numbers kinds.MapReply list = nat_le (count_by is_mapping list) 2
right_numbers kinds.ReconfAsk list = (count_by is_multi_link list == 1) && (count_by is_reconf_link list == 1)
right_numbers _ list = true

abbrev pub wrong_number : Code → Why
wrong_number kinds.ReconfAsk = NoMultiLink
wrong_number _ = NoMapping

-- which elements behind the fields of such a code are decoded
abbrev pub decodes : Code → Option Known
decodes kinds.MapAsk = Some TidToLinkMapping
decodes kinds.MapReply = Some TidToLinkMapping
decodes kinds.ReconfAsk = Some MultiLinks
decodes _ = None

-- where the element is one of those that are decoded, it has a value
abbrev pub HasValue : Option Known → ElementValue → Type 0
HasValue (Some TidToLinkMapping) e = HasMapping e
HasValue (Some MultiLinks) e = HasMultiLink e
HasValue None e = Unit {0}

-- it is one of them, and is refused
abbrev pub HasNone : Option Known → ElementValue → Refusal → Type 0
HasNone (Some TidToLinkMapping) e refusal = (is_mapping e ≡ true) × TtlmRefused e.body refusal
HasNone (Some MultiLinks) e refusal = (is_multi_link e ≡ true) × MlRefused e.body refusal
HasNone None e refusal = ⊥

-- an element that is to be decoded behind the fields of such a code has a value
abbrev pub IsRead : Code → ElementValue → Type 0
IsRead code e = HasValue (decodes code) e

-- it is to be decoded, and is refused
abbrev pub IsItemRefused : Code → ElementValue → Refusal → Type 0
IsItemRefused code e refusal = HasNone (decodes code) e refusal

-- the first that isn't decoded, counted from `i`
abbrev pub FirstRefused : Code → ℕ → List ElementValue → Refusal → Type 0
FirstRefused code i [] refusal = ⊥
FirstRefused code i (e ∷ list) refusal =
    ((inner : Refusal) × IsItemRefused code e inner × (refusal ≡ in_element i inner))
    ⊎ (IsRead code e × FirstRefused code (suc i) list refusal)

-- The octets from this place on are no element list, or one with a wrong number of elements, or one
-- with an element that is to be decoded and isn't.
abbrev pub ListRefused : Code → List ℕ → ℕ → Refusal → Type 0
ListRefused code octets offset refusal =
    ((inner : Refusal) × ElemsRefused octets inner × (refusal ≡ moved offset inner))
    ⊎ ((list : List ElementValue) × Elems list octets × (right_numbers code list ≡ false) × (refusal ≡ refusal_at offset (wrong_number code)))
    ⊎ ((list : List ElementValue) × Elems list octets × (right_numbers code list ≡ true) × FirstRefused code 0 list refusal)

-- the octets behind the fields of a code with elements are refused
abbrev pub RefusedList : Bool → Code → List ℕ → Refusal → Type 0
RefusedList true code rest refusal = ListRefused code (drop (total (widths code)) rest) (2 + total (widths code)) refusal
RefusedList false code rest refusal = ⊥

abbrev pub RefusedCode : Option Code → List ℕ → Refusal → Type 0
RefusedCode (Some code) rest refusal = RefusedList (has_elements code) code rest refusal
RefusedCode None rest refusal = ⊥

abbrev pub RefusedBehind : List ℕ → Refusal → Type 0
RefusedBehind [] refusal = ⊥
RefusedBehind (category ∷ []) refusal = ⊥
RefusedBehind (category ∷ action ∷ rest) refusal = RefusedCode (code_of category action) rest refusal

abbrev pub RefusedAs : Option Refusal → List ℕ → Refusal → Type 0
RefusedAs (Some fault) body refusal = refusal ≡ fault
RefusedAs None body refusal = RefusedBehind body refusal

-- the body fails a test up to the elements, or its elements are refused
abbrev pub ActionRefused : List ℕ → Refusal → Type 0
ActionRefused body refusal = RefusedAs (head_fault body) body refusal

-- the body read as a value, or as refused
abbrev pub ReadAs : List ℕ → Result Action Refusal → Type 0
ReadAs body (Ok action) = ActionOf action body
ReadAs body (Err refusal) = ActionRefused body refusal
