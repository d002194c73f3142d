-- Bodies of association frames that ends make for multi-link setup, and what an end takes of any body (IEEE Std 802.11,
-- 9.3.3.5 and 9.3.3.6; IEEE Std 802.11be, 9.4.2.312.2 and 35.3.5). Numbers have their lowest octet first.
--
-- | request                         | octets                                                  |
-- |---------------------------------|---------------------------------------------------------|
-- | capability, listen interval     | 0, 0, 0, 0                                              |
-- | further elements                | as given                                                |
-- | Multi-Link element              | 255, length, 107                                        |
-- | its control word                | 0, 0                                                    |
-- | Common Info                     | 7, MLD address 6                                        |
-- | each other asked link           | 0, length, link + 0x30, 0, 7, address 6, 0, 0           |
--
-- | response                        | octets                                                  |
-- |---------------------------------|---------------------------------------------------------|
-- | capability                      | 0, 0                                                    |
-- | status, AID                     | the carrying link's 2, 0xc001 2                         |
-- | Multi-Link element              | 255, length, 107                                        |
-- | its control word                | 0x10, 0                                                 |
-- | Common Info                     | 8, MLD address 6, the carrying link                     |
-- | each other link with a status   | 0, length, link + 0x30, 0, 7, address 6, 0, 0, status 2 |
-- | one where the AP has no address | 0, length, link + 0x10, 0, 1, 0, 0, status 2            |
--
-- A subelement of ID 0 is a Per-STA Profile: its control word, with complete set (0x10) and the address's presence
-- (0x20), STA Info, which begins with its length, and its body. Links stand in ascending order.
use Rattle.std.specs.Prelude.{◌≡◌, ℕ, zero, suc, ◌+◌, ◌==◌, ◌&&◌, not, if◌then◌else◌, is_some, Bool, true, List, [], ◌∷◌, ◌++◌, length, drop, Option, Some, None, Ok}
use Rattle.std.specs.List.{list_all}
use Rattle.wl_elem.specs.Element.{ElementValue}
use Rattle.wl_elem.specs.Links.{link_limit}
use Rattle.wl_elem.specs.Octets.{octets_of}
use Rattle.wl_mle.specs.declared.basic.Basic.{Basic}
use Rattle.wl_mle.specs.declared.multi_link.MultiLink.TheVariants as elements
use Rattle.wl_mle.specs.MultiLink.{MlOf}
use Rattle.wl_assoc.specs.declared.association.AssocAsk.{AssocAsk}
use Rattle.wl_assoc.specs.declared.association.AssocReply.{AssocReply}
use Rattle.wl_assoc.specs.declared.links.LinkAsk.{LinkAsk}
use Rattle.wl_assoc.specs.declared.links.LinkState.{LinkState}
use Rattle.wl_assoc.specs.Association.{AskOf, ReplyOf}
use Rattle.wl_assoc.specs.Profiles.{AsksAs, StatesAs, IsOnlyBasic}
use Rattle.wl_setup.specs.declared.message.SetupAsk.{SetupAsk}
use Rattle.wl_setup.specs.declared.message.SetupReply.{SetupReply}
use Rattle.wl_setup.specs.Table.{each_link, entry_for, is_named}

-- ---- what is written

-- the links that pass, of so many from one on, in ascending order
abbrev pub passing_from : (ℕ → Bool) → ℕ → ℕ → List ℕ
passing_from passes link zero = []
passing_from passes link (suc count) =
    if passes link then link ∷ passing_from passes (suc link) count else passing_from passes (suc link) count

-- the table names the link, and it isn't the one that carries the frame
abbrev pub is_other : {A : Type 0} → List (Option A) → ℕ → ℕ → Bool
is_other table on link = is_named table link && not (link == on)

-- these links, in ascending order
unfoldable pub other_links : {A : Type 0} → List (Option A) → ℕ → List ℕ
other_links table on = passing_from (is_other table on) 0 link_limit

-- the octets for each of some links, in their order
abbrev pub for_each : (ℕ → List ℕ) → List ℕ → List ℕ
for_each octets [] = []
for_each octets (link ∷ links) = octets link ++ for_each octets links

-- a profile with this content, which is short
abbrev pub profile : List ℕ → List ℕ
profile content = 0 ∷ length content ∷ content

-- the control word of a complete profile and STA Info, with an address or none
abbrev pub station_info : ℕ → Option (List ℕ) → List ℕ
station_info link None = (link + 0x10) ∷ 0 ∷ 1 ∷ []
station_info link (Some mac) = (link + 0x30) ∷ 0 ∷ 7 ∷ mac

-- a table's number for a link, 0 where it has none

abbrev pub number_of : Option ℕ → ℕ
number_of None = 0
number_of (Some n) = n

abbrev pub status_for : List (Option ℕ) → ℕ → ℕ
status_for status link = number_of (entry_for status link)

-- the bodies of profiles: a capability of 0, and in a response the status
abbrev pub ask_profile : List (Option (List ℕ)) → ℕ → List ℕ
ask_profile macs link = profile (station_info link (entry_for macs link) ++ 0 ∷ 0 ∷ [])

abbrev pub reply_profile : List (Option (List ℕ)) → List (Option ℕ) → ℕ → List ℕ
reply_profile macs status link = profile (station_info link (entry_for macs link) ++ 0 ∷ 0 ∷ octets_of 2 (status_for status link))

-- the bodies of the Basic Multi-Link elements

abbrev pub ask_basic : SetupAsk → List ℕ
ask_basic ask = 0 ∷ 0 ∷ 7 ∷ (ask.mld ++ for_each (ask_profile ask.macs) (other_links ask.macs ask.on))

abbrev pub reply_basic : List ℕ → List (Option (List ℕ)) → SetupReply → List ℕ
reply_basic mld macs reply =
    0x10 ∷ 0 ∷ 8 ∷ (mld ++ reply.on ∷ for_each (reply_profile macs reply.status) (other_links reply.status reply.on))

-- a Multi-Link element with this body, which is short
abbrev pub basic_element : List ℕ → List ℕ
basic_element body = 255 ∷ suc (length body) ∷ 107 ∷ body

-- the body of the frame that asks, with these further elements
abbrev pub ask_body : SetupAsk → List ℕ → List ℕ
ask_body ask elements = 0 ∷ 0 ∷ 0 ∷ 0 ∷ (elements ++ basic_element (ask_basic ask))

-- the body of the frame that replies, of an AP with this MLD address and these addresses by link ID
abbrev pub reply_body : List ℕ → List (Option (List ℕ)) → SetupReply → List ℕ
reply_body mld macs reply =
    0 ∷ 0 ∷ (octets_of 2 (status_for reply.status reply.on) ++ (octets_of 2 0xc001 ++ basic_element (reply_basic mld macs reply)))

-- ---- what is taken

-- the MLD address of the list's one Basic Multi-Link element
pub record HasMld (list : List ElementValue) (mld : List ℕ) : Type 0 where
  pub index : ℕ
  pub element : ElementValue
  pub only : IsOnlyBasic list index element
  pub basic : Basic
  pub value : MlOf (elements.Basic basic) element.body
  pub same : mld ≡ basic.common.mld

-- what the profiles say of a link

abbrev pub mac_in : List LinkAsk → ℕ → Option (List ℕ)
mac_in [] link = None
mac_in (a ∷ asks) link = if a.link == link then a.mac else mac_in asks link

abbrev pub status_in : List LinkState → ℕ → Option ℕ
status_in [] link = None
status_in (s ∷ states) link = if s.link == link then Some s.status else status_in states link

-- the sender's address on a link: on the carrying one that which the frame came from
abbrev pub mac_on : ℕ → List ℕ → List LinkAsk → ℕ → Option (List ℕ)
mac_on on mac asks link = if link == on then Some mac else mac_in asks link

-- What an AP takes of a request that came over this link from this address: each profile has an address, and none is for
-- the carrying link.
pub record AskFrom (on : ℕ) (mac : List ℕ) (value : AssocAsk) (ask : SetupAsk) : Type 0 where
  pub asks : List LinkAsk
  pub said : AsksAs value (Ok asks)
  pub addressed : list_all (λ a. is_some a.mac) asks ≡ true
  pub elsewhere : list_all (λ a. not (a.link == on)) asks ≡ true
  pub over : ask.on ≡ on
  pub mld : HasMld value.elements ask.mld
  pub macs : ask.macs ≡ each_link (mac_on on mac asks)

-- What a station takes of a response that came over this link: no profile is for the carrying link.
pub record ReplyFrom (on : ℕ) (value : AssocReply) (reply : SetupReply) : Type 0 where
  pub states : List LinkState
  pub said : StatesAs value on (Ok states)
  pub elsewhere : list_all (λ s. not (s.link == on)) (drop 1 states) ≡ true
  pub over : reply.on ≡ on
  pub status : reply.status ≡ each_link (status_in states)

-- the same of bodies

abbrev pub AskIn : ℕ → List ℕ → List ℕ → SetupAsk → Type 0
AskIn on mac body ask = (value : AssocAsk) × AskOf value body × AskFrom on mac value ask

abbrev pub ReplyIn : ℕ → List ℕ → SetupReply → Type 0
ReplyIn on body reply = (value : AssocReply) × ReplyOf value body × ReplyFrom on value reply

-- the body read as what it says, or as one that nothing is taken of

abbrev pub AskReadAs : ℕ → List ℕ → List ℕ → Option SetupAsk → Type 0
AskReadAs on mac body (Some ask) = AskIn on mac body ask
AskReadAs on mac body None = (ask : SetupAsk) → AskIn on mac body ask → ⊥

abbrev pub ReplyReadAs : ℕ → List ℕ → Option SetupReply → Type 0
ReplyReadAs on body (Some reply) = ReplyIn on body reply
ReplyReadAs on body None = (reply : SetupReply) → ReplyIn on body reply → ⊥
