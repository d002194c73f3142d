-- Which messages have a body, and the codecs' values of it (IEEE Std 802.11, 9.3.3.5 and 9.3.3.6; IEEE Std 802.11be,
-- 9.4.2.312.2).
use Rattle.std.specs.Prelude.{◌≡◌, ℕ, ◌<◌, true, false, List, [], ◌∷◌, ◌++◌, length, Option, Some, None, IfSome}
use Rattle.std.specs.List.{AllByRecursion}
use Rattle.wl_elem.specs.Element.{ElementValue}
use Rattle.wl_elem.specs.Identity.{extended_id, multi_link, is_multi_link}
use Rattle.wl_elem.specs.Links.{link_limit}
use Rattle.wl_elem.specs.Octets.{octets_of}
use Rattle.wl_mle.specs.declared.basic.Basic.{Basic}
use Rattle.wl_mle.specs.declared.basic.BasicSub.{BasicSub}
use Rattle.wl_mle.specs.declared.basic.BasicSub.TheVariants as basics
use Rattle.wl_mle.specs.declared.profile.Profile.{Profile}
use Rattle.wl_mle.specs.MultiLink.{IsAddress}
use Rattle.wl_assoc.specs.declared.association.AssocAsk.{AssocAsk}
use Rattle.wl_assoc.specs.declared.association.AssocReply.{AssocReply}
use Rattle.wl_setup.specs.declared.message.SetupAsk.{SetupAsk}
use Rattle.wl_setup.specs.declared.message.SetupReply.{SetupReply}
use Rattle.wl_setup.specs.Table.{entry_for, is_named}
use Rattle.wl_joining.specs.Joining.{other_links, status_for, ask_basic, reply_basic}

-- ---- messages

-- each address in a table has six octets
abbrev pub AreAddresses : List (Option (List ℕ)) → Type 0
AreAddresses macs = (link : ℕ) → IfSome (entry_for macs link) IsAddress

-- a request for at least the link that carries it
pub record IsAsk (ask : SetupAsk) : Type 0 where
  pub on : ask.on < link_limit
  pub named : is_named ask.macs ask.on ≡ true
  pub mld : IsAddress ask.mld
  pub whole : length ask.macs ≡ link_limit
  pub addresses : AreAddresses ask.macs

-- a response with a status for at least the link that carries it, of an AP with these addresses
pub record IsReply (mld : List ℕ) (macs : List (Option (List ℕ))) (reply : SetupReply) : Type 0 where
  pub on : reply.on < link_limit
  pub named : is_named reply.status reply.on ≡ true
  pub address : IsAddress mld
  pub addresses : AreAddresses macs
  pub whole : length reply.status ≡ link_limit
  pub statuses : (link : ℕ) → IfSome (entry_for reply.status link) (λ status. status < 65536)

-- no element is a Multi-Link element
abbrev pub HaveNoMultiLink : List ElementValue → Type 0
HaveNoMultiLink list = AllByRecursion (λ e. is_multi_link e ≡ false) list

-- ---- the codecs' values

-- the complete profile of a link, with this address and this body
abbrev pub link_profile : ℕ → Option (List ℕ) → List ℕ → Profile
link_profile link mac body = record {
  link = link;
  complete = true;
  pair = false;
  wide = false;
  spare = 0;
  mac = mac;
  beacon = None;
  tsf = None;
  dtim = None;
  nstr = None;
  count = None;
  tail = [];
  body = body;
}

-- the profiles of some links, by each one's address and body
abbrev pub link_profiles : (ℕ → Option (List ℕ)) → (ℕ → List ℕ) → List ℕ → List BasicSub
link_profiles mac body [] = []
link_profiles mac body (link ∷ links) = basics.Profile (link_profile link (mac link) (body link)) ∷ link_profiles mac body links

-- a Basic Multi-Link element with this MLD address, this Link ID Info or none, and these profiles
abbrev pub basic_with : List ℕ → Option ℕ → List BasicSub → Basic
basic_with mld link subs = record {
  spare = 0;
  common = record { mld = mld; link = link; count = None; sync = None; eml = None; caps = None; apid = None; ext = None; tail = [] };
  subs = subs;
}

abbrev pub ask_link_body : ℕ → List ℕ
ask_link_body link = 0 ∷ 0 ∷ []

abbrev pub reply_link_body : List (Option ℕ) → ℕ → List ℕ
reply_link_body status link = 0 ∷ 0 ∷ octets_of 2 (status_for status link)

-- the Basic Multi-Link elements

abbrev pub ask_multi_link : SetupAsk → Basic
ask_multi_link ask = basic_with ask.mld None (link_profiles (entry_for ask.macs) ask_link_body (other_links ask.macs ask.on))

abbrev pub reply_multi_link : List ℕ → List (Option (List ℕ)) → SetupReply → Basic
reply_multi_link mld macs reply =
    basic_with mld (Some reply.on) (link_profiles (entry_for macs) (reply_link_body reply.status) (other_links reply.status reply.on))

abbrev pub multi_link_element : List ℕ → ElementValue
multi_link_element body = record { id = extended_id; ext = Some multi_link; body = body }

-- the bodies of the frames

abbrev pub ask_value : List ElementValue → SetupAsk → AssocAsk
ask_value list ask = record { capability = 0; listen = 0; elements = list ++ multi_link_element (ask_basic ask) ∷ [] }

abbrev pub reply_value : List ℕ → List (Option (List ℕ)) → SetupReply → AssocReply
reply_value mld macs reply = record {
  capability = 0;
  status = status_for reply.status reply.on;
  aid = 0xc001;
  elements = multi_link_element (reply_basic mld macs reply) ∷ [];
}
