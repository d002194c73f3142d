-- What each link's station asked for, and what each link was answered (IEEE Std 802.11be,
-- 9.4.2.312.2 and 35.3). The body of a profile, behind its control word and STA Info:
--
-- | field      | there         | octets   |
-- |------------|---------------|----------|
-- | capability | always        | 2        |
-- | status     | in a response | 2        |
-- | elements   | always        | the rest |
use Rattle.std.specs.Prelude.{◌≡◌, ◌≢◌, ℕ, suc, ◌+◌, ◌%◌, ◌<◌, ◌≤◌, ◌==◌, ◌⊎◌, ◌&&◌, nat_le, Bool, true, false, IsTrue, List, [], ◌∷◌, ◌++◌, length, take, drop, map, count_by, slice_get, Some, Result, Ok, Err}
use Rattle.std.specs.List.{list_any}
use Rattle.wl_elem.specs.declared.fault.Refusal.{Refusal}
use Rattle.wl_elem.specs.declared.why.Why.TheVariants.{NoMultiLink, RepeatedLink, ProfileShort}
use Rattle.wl_elem.specs.Answers.{refusal_at, in_element, in_sub, moved}
use Rattle.wl_elem.specs.Element.{ElementValue}
use Rattle.wl_elem.specs.ElementList.{Elems, ElemsRefused}
use Rattle.wl_elem.specs.Identity.{is_multi_link}
use Rattle.wl_elem.specs.Octets.{number}
use Rattle.wl_mle.specs.declared.basic.Basic.{Basic}
use Rattle.wl_mle.specs.declared.basic.BasicSub.{BasicSub}
use Rattle.wl_mle.specs.declared.basic.BasicSub.TheVariants as basics
use Rattle.wl_mle.specs.declared.multi_link.MultiLink.TheVariants as elements
use Rattle.wl_mle.specs.declared.profile.Profile.{Profile}
use Rattle.wl_mle.specs.Fields.{word_of}
use Rattle.wl_mle.specs.Layout.{body_place}
use Rattle.wl_mle.specs.MultiLink.{MlOf, MlRefused}
use Rattle.wl_inherit.specs.Inheritance.{ExpandsAs}
use Rattle.wl_assoc.specs.declared.association.AssocAsk.{AssocAsk}
use Rattle.wl_assoc.specs.declared.association.AssocReply.{AssocReply}
use Rattle.wl_assoc.specs.declared.links.LinkAsk.{LinkAsk}
use Rattle.wl_assoc.specs.declared.links.LinkState.{LinkState}
use Rattle.wl_assoc.specs.declared.profiles.LinkEntry.{LinkEntry}

-- ---- the element

-- a Basic Multi-Link element, by its identity and the type in its control word
abbrev pub is_basic : ElementValue → Bool
is_basic e = is_multi_link e && nat_le 2 (length e.body) && (word_of e.body % 8 == 0)

-- the list has one such element, and this is it
pub record IsOnlyBasic (list : List ElementValue) (i : ℕ) (e : ElementValue) : Type 0 where
  pub counted : count_by is_basic list ≡ 1
  pub there : slice_get list i ≡ Some e
  pub basic : IsTrue (is_basic e)

-- ---- one profile

-- how many octets its fixed fields take, in a response or in a request
abbrev pub fixed_len : Bool → ℕ
fixed_len true = 4
fixed_len false = 2

abbrev pub status_of : Bool → List ℕ → ℕ
status_of true body = number (take 2 (drop 2 body))
status_of false body = 0

-- what a profile with these elements says of its link
abbrev pub entry : Bool → Profile → List ElementValue → LinkEntry
entry response p list = record { link = p.link; mac = p.mac; capability = number (take 2 p.body); status = status_of response p.body; elements = list }

-- a complete profile is expanded within the frame, another has its own elements
abbrev pub ElementsAs : List ElementValue → Bool → List ElementValue → Result (List ElementValue) Refusal → Type 0
ElementsAs outer true own answer = ExpandsAs outer own answer
ElementsAs outer false own answer = answer ≡ Ok own

-- The profile's elements, or as refused: its fixed fields aren't whole, its elements are refused, or
-- they aren't expanded.
abbrev pub ProfileAs : Bool → List ElementValue → Profile → Result (List ElementValue) Refusal → Type 0
ProfileAs response outer p answer =
    ((length p.body < fixed_len response) × (answer ≡ Err (refusal_at (body_place p) ProfileShort)))
    ⊎ ((fixed_len response ≤ length p.body)
    × (((inside : Refusal) × ElemsRefused (drop (fixed_len response) p.body) inside × (answer ≡ Err (moved (body_place p + fixed_len response) inside)))
    ⊎ ((own : List ElementValue) × Elems own (drop (fixed_len response) p.body) × ElementsAs outer p.complete own answer)))

-- ---- the profiles in order

-- a profile and its index among the subelements
pub record ProfileAt : Type 0 where
  pub sub : ℕ
  pub profile : Profile

-- the profiles among subelements, the first of which has index j
abbrev pub profiles_from : ℕ → List BasicSub → List ProfileAt
profiles_from j [] = []
profiles_from j (basics.Other id body ∷ subs) = profiles_from (suc j) subs
profiles_from j (basics.Profile p ∷ subs) = record { sub = j; profile = p } ∷ profiles_from (suc j) subs

abbrev pub links_in : List ProfileAt → List ℕ
links_in profiles = map (λ x. x.profile.link) profiles

abbrev pub is_among : ℕ → List ℕ → Bool
is_among link links = list_any (λ l. l == link) links

-- no link stands twice
abbrev pub AreDifferent : List ℕ → Type 0
AreDifferent [] = Unit {0}
AreDifferent (link ∷ links) = (is_among link links ≡ false) × AreDifferent links

-- the entries are what the profiles say, one for each, in their order
abbrev pub SaidBy : Bool → List ElementValue → List ProfileAt → List LinkEntry → Type 0
SaidBy response outer [] [] = Unit {0}
SaidBy response outer [] (e ∷ entries) = ⊥
SaidBy response outer (x ∷ profiles) [] = ⊥
SaidBy response outer (x ∷ profiles) (e ∷ entries) = ProfileAs response outer x.profile (Ok e.elements) × (e ≡ entry response x.profile e.elements) × SaidBy response outer profiles entries

-- all profiles pass their tests: each says its entry, and no two have one link
pub record AllPass (response : Bool) (outer : List ElementValue) (profiles : List ProfileAt) (entries : List LinkEntry) : Type 0 where
  pub each : SaidBy response outer profiles entries
  pub different : AreDifferent (links_in profiles)

-- the refusal of a profile with the link of an earlier one
abbrev pub repeated_at : ℕ → Refusal
repeated_at sub = in_sub sub (refusal_at 0 RepeatedLink)

-- The profile fails a test behind the earlier ones: one of them has its link, or what it says is
-- refused.
abbrev pub FailsBehind : Bool → List ElementValue → List ProfileAt → ProfileAt → Refusal → Type 0
FailsBehind response outer earlier x refusal =
    (IsTrue (is_among x.profile.link (links_in earlier)) × (refusal ≡ repeated_at x.sub))
    ⊎ ((is_among x.profile.link (links_in earlier) ≡ false) × (inside : Refusal) × ProfileAs response outer x.profile (Err inside) × (refusal ≡ in_sub x.sub inside))

-- the first profile that fails a test is refused so
pub record FirstFails (response : Bool) (outer : List ElementValue) (profiles : List ProfileAt) (refusal : Refusal) : Type 0 where
  pub earlier : List ProfileAt
  pub bad : ProfileAt
  pub later : List ProfileAt
  pub split : profiles ≡ earlier ++ bad ∷ later
  pub entries : List LinkEntry
  pub passed : AllPass response outer earlier entries
  pub fails : FailsBehind response outer earlier bad refusal

-- what the profiles among the subelements say, or as refused
abbrev pub ProfilesAs : Bool → List ElementValue → List BasicSub → Result (List LinkEntry) Refusal → Type 0
ProfilesAs response outer subs (Ok entries) = AllPass response outer (profiles_from 0 subs) entries
ProfilesAs response outer subs (Err refusal) = FirstFails response outer (profiles_from 0 subs) refusal

-- ---- the frame

-- a Basic Multi-Link element is refused, or its profiles are
abbrev pub BasicRefused : Bool → List ElementValue → ElementValue → Refusal → Type 0
BasicRefused response list e refusal = MlRefused e.body refusal ⊎ ((b : Basic) × MlOf (elements.Basic b) e.body × ProfilesAs response list b.subs (Err refusal))

-- what the profiles of the frame with these elements say, or as refused
abbrev pub EntriesAs : Bool → List ElementValue → Result (List LinkEntry) Refusal → Type 0
EntriesAs response list (Ok entries) = (i : ℕ) × (e : ElementValue) × IsOnlyBasic list i e × (b : Basic) × MlOf (elements.Basic b) e.body × ProfilesAs response list b.subs (Ok entries)
EntriesAs response list (Err refusal) =
    ((count_by is_basic list ≢ 1) × (refusal ≡ refusal_at 0 NoMultiLink))
    ⊎ ((i : ℕ) × (e : ElementValue) × IsOnlyBasic list i e × (inside : Refusal) × BasicRefused response list e inside × (refusal ≡ in_element i inside))

abbrev pub ask_of : LinkEntry → LinkAsk
ask_of e = record { link = e.link; mac = e.mac; capability = e.capability; elements = e.elements }

abbrev pub state_of : LinkEntry → LinkState
state_of e = record { link = e.link; capability = e.capability; status = e.status }

-- what each link's station asks for, or as refused
abbrev pub AsksAs : AssocAsk → Result (List LinkAsk) Refusal → Type 0
AsksAs ask (Ok asks) = (entries : List LinkEntry) × EntriesAs false ask.elements (Ok entries) × (asks ≡ map ask_of entries)
AsksAs ask (Err refusal) = EntriesAs false ask.elements (Err refusal)

-- what each link is answered, the link that carries the frame first, or as refused
abbrev pub StatesAs : AssocReply → ℕ → Result (List LinkState) Refusal → Type 0
StatesAs reply on (Ok states) =
    (entries : List LinkEntry) × EntriesAs true reply.elements (Ok entries)
    × (states ≡ record { link = on; capability = reply.capability; status = reply.status } ∷ map state_of entries)
StatesAs reply on (Err refusal) = EntriesAs true reply.elements (Err refusal)

-- ---- what it comes to

-- The links are those of the profiles of the frame's one Basic Multi-Link element, one for each, in
-- their order, and no two are the same.
pub record AreProfileLinks (list : List ElementValue) (links : List ℕ) : Type 0 where
  pub index : ℕ
  pub element : ElementValue
  pub only : IsOnlyBasic list index element
  pub basic : Basic
  pub value : MlOf (elements.Basic basic) element.body
  pub same : links ≡ links_in (profiles_from 0 basic.subs)
  pub different : AreDifferent links

-- the subelement of this index is this profile
abbrev pub IsProfileAt : List BasicSub → ℕ → Profile → Type 0
IsProfileAt subs sub p = slice_get subs sub ≡ Some (basics.Profile p)

-- The profile of this index has the link of an earlier one, and none of the earlier ones fails a test.
pub record IsRepeated (response : Bool) (outer : List ElementValue) (subs : List BasicSub) (sub : ℕ) : Type 0 where
  pub profile : Profile
  pub there : IsProfileAt subs sub profile
  pub first : ℕ
  pub other : Profile
  pub before : first < sub
  pub first_there : IsProfileAt subs first other
  pub same : other.link ≡ profile.link
  pub entries : List LinkEntry
  pub passed : AllPass response outer (profiles_from 0 (take sub subs)) entries
