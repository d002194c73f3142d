-- The station's end of multi-link setup (IEEE Std 802.11be, 35.3.5).
use Rattle.std.specs.Prelude.{◌≡◌, ◌<◌, ℕ, ◌==◌, ◌&&◌, not, Bool, true, false, List, Option, Some, None, Result, Ok, Err, if◌then◌else◌}
use Rattle.wl_elem.specs.Links.{link_limit, has_link}
use Rattle.wl_setup.specs.declared.message.SetupAsk.{SetupAsk}
use Rattle.wl_setup.specs.declared.message.SetupReply.{SetupReply}
use Rattle.wl_setup.specs.declared.message.SetupRefusal.{SetupRefusal}
use Rattle.wl_setup.specs.declared.message.SetupRefusal.TheVariants.{Joined, NotValid, Unpowered}
use Rattle.wl_setup.specs.Messages.{addresses_on, links_granted}
use Rattle.wl_setup.specs.Status.{success, is_success}
use Rattle.wl_setup.specs.Table.{entry_for, is_named, all_links}

-- a station: its addresses, the links set up, and the request whose reply it awaits
pub record StationState : Type 0 where
  pub mld : List ℕ
  pub macs : List (Option (List ℕ))
  pub links : ℕ
  pub awaits : Option SetupAsk

-- the station has an address for the link, where that is in the set
abbrev pub is_fit : List (Option (List ℕ)) → ℕ → ℕ → Bool
is_fit macs links link = if has_link links link then is_named macs link else true

-- the links to ask for have the carrying link among them, and the station has an address for each
abbrev pub is_choice : StationState → ℕ → ℕ → Bool
is_choice station on links = has_link links on && all_links (is_fit station.macs links)

-- the same in words
pub record IsChoice (station : StationState) (on links : ℕ) : Type 0 where
  pub carrying : has_link links on ≡ true
  pub known : (link : ℕ) → link < link_limit → has_link links link ≡ true → is_named station.macs link ≡ true

-- the request for these links
abbrev pub ask_for : StationState → ℕ → ℕ → SetupAsk
ask_for station on links = record { on = on; mld = station.mld; macs = addresses_on station.macs links }

-- what a station that is to ask for links over a link answers: the first refusal that holds, or the request
abbrev pub asking : StationState → ℕ → ℕ → ℕ → Result SetupAsk SetupRefusal
asking station on links powered =
    if not (station.links == 0) then Err Joined
    else if not (is_choice station on links) then Err NotValid
    else if not (has_link powered on) then Err Unpowered
    else Ok (ask_for station on links)

-- the station once it has made a request
abbrev pub awaiting : StationState → SetupAsk → StationState
awaiting station ask = record station { awaits = Some ask }

-- the station awaits a reply over this link
abbrev pub awaits_over : Option SetupAsk → ℕ → Bool
awaits_over None on = false
awaits_over (Some ask) on = ask.on == on

-- the status of the carrying link, where the reply is taken
abbrev pub reply_answer : StationState → SetupReply → Option ℕ
reply_answer station reply =
    if awaits_over station.awaits reply.on then entry_for reply.status reply.on else None

-- the links set up after a reply to the request is taken
abbrev pub links_after : Option SetupAsk → ℕ → SetupReply → ℕ
links_after None links reply = links
links_after (Some ask) links reply =
    if is_success (entry_for reply.status reply.on) then links_granted ask.macs reply.status else links

-- the station after a reply: a reply that is taken ends the wait, whatever its status
abbrev pub after_reply : StationState → SetupReply → StationState
after_reply station reply =
    if awaits_over station.awaits reply.on
    then record station { links = links_after station.awaits station.links reply; awaits = None }
    else station

-- the station may set up a link by a reply: it awaits one, asked for the link, and the link succeeds in the reply
pub record IsConfirmed (station : StationState) (reply : SetupReply) (link : ℕ) : Type 0 where
  pub ask : SetupAsk
  pub awaited : station.awaits ≡ Some ask
  pub asked : is_named ask.macs link ≡ true
  pub succeeds : entry_for reply.status link ≡ Some success
