-- The Multi-Link element (IEEE Std 802.11be, 9.4.2.312), as its body: the control word, for the types
-- Basic and Reconfiguration Common Info and subelements, for the others the octets as they are. A
-- subelement of ID 0 is a profile: its control word, STA Info, and its body. Subelements (9.4.2.312.2.4
-- and 9.4.2.312.4) are cut as elements are, with 254 as the ID of a Fragment and all octets counted as
-- content.
use Rattle.std.specs.Prelude.{◌≡◌, ◌≢◌, ℕ, suc, ◌+◌, ◌%◌, ◌<◌, ◌≤◌, ◌==◌, ◌⊎◌, ◌&&◌, nat_lt, if◌then◌else◌, is_some, Bool, true, false, List, [], ◌∷◌, ◌++◌, length, drop, slice_index, map, Option, Some, None, IfSome, Result, Ok, Err}
use Rattle.std.specs.List.{AllByRecursion}
use Rattle.wl_elem.specs.declared.why.Why.TheVariants.{ControlShort, CommonShort, CommonLong, ReservedLink, InfoShort, InfoLong}
use Rattle.wl_elem.specs.declared.fault.Refusal.{Refusal}
use Rattle.wl_elem.specs.declared.kind.ListKind.TheVariants.{Subelements}
use Rattle.wl_elem.specs.declared.item.Item.{Item}
use Rattle.wl_elem.specs.Answers.{refusal_at, in_sub}
use Rattle.wl_elem.specs.Bits.{has_bit}
use Rattle.wl_elem.specs.Element.{body_limit}
use Rattle.wl_elem.specs.Fields.{Fits}
use Rattle.wl_elem.specs.Octets.{octets_of}
use Rattle.wl_elem.specs.Row.{IsCutOff}
use Rattle.wl_elem.specs.Items.{Items}
use Rattle.wl_mle.specs.declared.basic.Basic.{Basic}
use Rattle.wl_mle.specs.declared.basic.BasicSub.{BasicSub}
use Rattle.wl_mle.specs.declared.basic.BasicSub.TheVariants as basics
use Rattle.wl_mle.specs.declared.profile.Profile.{Profile}
use Rattle.wl_mle.specs.declared.reconf.Reconf.{Reconf}
use Rattle.wl_mle.specs.declared.reconf.ReconfSub.{ReconfSub}
use Rattle.wl_mle.specs.declared.reconf.ReconfSub.TheVariants as reconfs
use Rattle.wl_mle.specs.declared.change.LinkChange.{LinkChange}
use Rattle.wl_mle.specs.declared.multi_link.MultiLink.{MultiLink}
use Rattle.wl_mle.specs.declared.multi_link.MultiLink.TheVariants as elements
use Rattle.wl_mle.specs.Fields.{IsShort, info_text, need, info_fault, at_info, behind_info, word_of}
use Rattle.wl_mle.specs.Layout.{basic_slots, reconf_slots, profile_slots, change_slots, nstr_width, basic_fields, reconf_fields, profile_fields, change_fields, basic_control, reconf_control, profile_control, change_control, basic_spare, reconf_spare}

abbrev pub IsAddress : List ℕ → Type 0
IsAddress octets = length octets ≡ 6

-- ---- profiles

abbrev pub profile_text : Profile → List ℕ
profile_text p = info_text (profile_control p) (profile_fields p) p.tail p.body

-- what a Basic profile is
pub record IsProfile (p : Profile) : Type 0 where
  pub link : p.link < 15
  pub spare : p.spare < 16
  pub mac : IfSome p.mac IsAddress
  pub beacon : Fits 2 p.beacon
  pub tsf : Fits 8 p.tsf
  pub dtim : Fits 2 p.dtim
  pub nstr : Fits (nstr_width p.wide) p.nstr
  -- the NSTR bitmap is there exactly where the profile is complete and has a link pair
  pub nstr_there : is_some p.nstr ≡ (p.complete && p.pair)
  pub count : Fits 1 p.count
  pub short : IsShort (profile_fields p) p.tail

abbrev pub change_text : LinkChange → List ℕ
change_text c = info_text (change_control c) (change_fields c) c.tail c.body

-- what a Reconfiguration profile is
pub record IsChange (c : LinkChange) : Type 0 where
  pub link : c.link < 15
  pub spare : c.spare < 16
  pub op : c.op < 16
  pub mac : IfSome c.mac IsAddress
  pub timer : Fits 2 c.timer
  pub short : IsShort (change_fields c) c.tail

-- ---- subelements

abbrev pub subelement : ℕ → List ℕ → Item
subelement id octets = record { id = id; octets = octets }

-- the subelement that is written
abbrev pub basic_sub : BasicSub → Item
basic_sub (basics.Profile p) = subelement 0 (profile_text p)
basic_sub (basics.Other id body) = subelement id body

abbrev pub IsOtherId : ℕ → Type 0
IsOtherId id = (id ≢ 0) × (id ≢ 254)

abbrev pub IsBasicSub : BasicSub → Type 0
IsBasicSub (basics.Profile p) = IsProfile p
IsBasicSub (basics.Other id body) = IsOtherId id

abbrev pub reconf_sub : ReconfSub → Item
reconf_sub (reconfs.Change c) = subelement 0 (change_text c)
reconf_sub (reconfs.Other id body) = subelement id body

abbrev pub IsReconfSub : ReconfSub → Type 0
IsReconfSub (reconfs.Change c) = IsChange c
IsReconfSub (reconfs.Other id body) = IsOtherId id

-- ---- elements

-- what a Basic Multi-Link element is
pub record IsBasic (b : Basic) : Type 0 where
  pub word : b.spare < 65536
  pub spare : basic_spare b.spare ≡ b.spare
  pub mld : IsAddress b.common.mld
  pub link : Fits 1 b.common.link
  pub free : IfSome b.common.link (λ link. link % 16 ≢ 15)
  pub count : Fits 1 b.common.count
  pub sync : Fits 2 b.common.sync
  pub eml : Fits 2 b.common.eml
  pub caps : Fits 2 b.common.caps
  pub apid : Fits 1 b.common.apid
  pub ext : Fits 2 b.common.ext
  pub short : IsShort (basic_fields b.common) b.common.tail
  pub subs : AllByRecursion IsBasicSub b.subs

-- what a Reconfiguration Multi-Link element is
pub record IsReconf (r : Reconf) : Type 0 where
  pub word : r.spare < 65536
  pub spare : reconf_spare r.spare ≡ r.spare
  pub mld : IfSome r.mld IsAddress
  pub eml : Fits 2 r.eml
  pub caps : Fits 2 r.caps
  pub ext : Fits 2 r.ext
  pub short : IsShort (reconf_fields r) r.tail
  pub subs : AllByRecursion IsReconfSub r.subs

-- the types whose octets stay as they are
pub record IsOther (control : ℕ) : Type 0 where
  pub word : control < 65536
  pub not_basic : control % 8 ≢ 0
  pub not_reconf : control % 8 ≢ 2

-- what has a body
abbrev pub IsMultiLink : MultiLink → Type 0
IsMultiLink (elements.Basic b) = IsBasic b
IsMultiLink (elements.Reconfiguration r) = IsReconf r
IsMultiLink (elements.Other control body) = IsOther control

-- the subelements that are written, and what the body begins with

abbrev pub subs_of : MultiLink → List Item
subs_of (elements.Basic b) = map basic_sub b.subs
subs_of (elements.Reconfiguration r) = map reconf_sub r.subs
subs_of (elements.Other control body) = []

-- the body, where these octets are those of the subelements
abbrev pub spelling : MultiLink → List ℕ → List ℕ
spelling (elements.Basic b) subs = info_text (basic_control b) (basic_fields b.common) b.common.tail subs
spelling (elements.Reconfiguration r) subs = info_text (reconf_control r) (reconf_fields r) r.tail subs
spelling (elements.Other control body) subs = octets_of 2 control ++ body

-- the body is this value's
pub record MlOf (value : MultiLink) (body : List ℕ) : Type 0 where
  pub is_value : IsMultiLink value
  pub subs : List ℕ
  pub cut : Items Subelements (subs_of value) subs
  pub text : body ≡ spelling value subs

-- some body, no longer than an element's may be, is this value's
abbrev pub IsWritable : MultiLink → Type 0
IsWritable value = (body : List ℕ) × (length body ≤ body_limit) × MlOf value body

-- ---- refusals

-- the first test that a subelement's octets fail, where it is a profile with these slots
abbrev pub link_fault : ℕ → Option Refusal → Option Refusal
link_fault control other = if control % 16 == 15 then Some (refusal_at 0 ReservedLink) else other

abbrev pub word_fault : (ℕ → List (Bool × ℕ)) → ℕ → List ℕ → Option Refusal
word_fault slots control rest = link_fault control (at_info (info_fault InfoShort InfoLong (need (slots control)) rest) None)

abbrev pub profile_fault : (ℕ → List (Bool × ℕ)) → List ℕ → Option Refusal
profile_fault slots octets = if nat_lt (length octets) 3 then Some (refusal_at 0 InfoShort) else word_fault slots (word_of octets) (drop 2 octets)

abbrev pub sub_fault : (ℕ → List (Bool × ℕ)) → Item → Option Refusal
sub_fault slots s = if s.id == 0 then profile_fault slots s.octets else None

-- the first profile that fails a test, counted from `sub`
abbrev pub first_refused : ℕ → Option Refusal → Option Refusal → Option Refusal
first_refused sub (Some refusal) others = Some (in_sub sub refusal)
first_refused sub None others = others

abbrev pub subs_refusal : (ℕ → List (Bool × ℕ)) → ℕ → List Item → Option Refusal
subs_refusal slots sub [] = None
subs_refusal slots sub (s ∷ list) = first_refused sub (sub_fault slots s) (subs_refusal slots (suc sub) list)

-- the first test before the subelements that fails, behind the control word: Common Info, and of
-- Basic the link ID of Link ID Info

abbrev pub own_link_fault : Bool → ℕ → Option Refusal
own_link_fault there link = if there && (link % 16 == 15) then Some (refusal_at 9 ReservedLink) else None

abbrev pub basic_fault : ℕ → List ℕ → Option Refusal
basic_fault control rest = at_info (info_fault CommonShort CommonLong (need (basic_slots control)) rest) (own_link_fault (has_bit control 0x10) (slice_index rest 7))

abbrev pub reconf_fault : ℕ → List ℕ → Option Refusal
reconf_fault control rest = at_info (info_fault CommonShort CommonLong (need (reconf_slots control)) rest) None

-- Behind Common Info the list of subelements is refused, at a piece or, where it is sound, at its
-- first profile that fails a test.
pub record CutRefused (rest : List ℕ) (refusal : Refusal) : Type 0 where
  pub place : ℕ
  pub left : ℕ
  pub split : place + left ≡ suc (suc (length rest))
  pub cut_off : IsCutOff Subelements false (behind_info rest) left refusal.why
  pub is_at : refusal ≡ refusal_at place refusal.why

pub record ProfileRefused (slots : ℕ → List (Bool × ℕ)) (rest : List ℕ) (refusal : Refusal) : Type 0 where
  pub list : List Item
  pub cut : Items Subelements list (behind_info rest)
  pub first : subs_refusal slots 0 list ≡ Some refusal

abbrev pub IsRefused : Option Refusal → (ℕ → List (Bool × ℕ)) → List ℕ → Refusal → Type 0
IsRefused (Some fault) slots rest refusal = refusal ≡ fault
IsRefused None slots rest refusal = CutRefused rest refusal ⊎ ProfileRefused slots rest refusal

-- by the type, whether it is Basic, whether it is Reconfiguration
abbrev pub RefusedAs : Bool → Bool → ℕ → List ℕ → Refusal → Type 0
RefusedAs true reconf control rest refusal = IsRefused (basic_fault control rest) profile_slots rest refusal
RefusedAs false true control rest refusal = IsRefused (reconf_fault control rest) change_slots rest refusal
RefusedAs false false control rest refusal = ⊥

abbrev pub RefusedWord : ℕ → List ℕ → Refusal → Type 0
RefusedWord control rest refusal = RefusedAs (control % 8 == 0) (control % 8 == 2) control rest refusal

abbrev pub RefusedBody : Bool → List ℕ → Refusal → Type 0
RefusedBody true body refusal = refusal ≡ refusal_at 0 ControlShort
RefusedBody false body refusal = RefusedWord (word_of body) (drop 2 body) refusal

-- the body is refused: it has no control word, or what follows that is refused
abbrev pub MlRefused : List ℕ → Refusal → Type 0
MlRefused body refusal = RefusedBody (nat_lt (length body) 2) body refusal

-- the body read as a value, or as refused
abbrev pub ReadAs : List ℕ → Result MultiLink Refusal → Type 0
ReadAs body (Ok value) = MlOf value body
ReadAs body (Err refusal) = MlRefused body refusal
