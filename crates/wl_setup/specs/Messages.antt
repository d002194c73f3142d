-- A request for multi-link setup and its reply, as tables over the links (IEEE Std 802.11be, 35.3.5).
use Rattle.std.specs.Prelude.{◌≡◌, ◌<◌, ℕ, ◌==◌, ◌&&◌, Bool, true, false, List, Option, Some, None, option_map, bytes_eq, if◌then◌else◌}
use Rattle.std.specs.Cmp.Lexicographic.{pointwise}
use Rattle.wl_elem.specs.Links.{link_limit, has_link}
use Rattle.wl_setup.specs.declared.message.SetupAsk.{SetupAsk}
use Rattle.wl_setup.specs.declared.message.SetupReply.{SetupReply}
use Rattle.wl_setup.specs.Status.{is_success}
use Rattle.wl_setup.specs.Table.{each_link, entry_for, is_named, links_that}

-- two addresses are the same, or neither is there
abbrev pub same_address : Option (List ℕ) → Option (List ℕ) → Bool
same_address None None = true
same_address None (Some other) = false
same_address (Some address) None = false
same_address (Some address) (Some other) = bytes_eq address other

-- an address is there, and it is this one
abbrev pub is_address : Option (List ℕ) → Option (List ℕ) → Bool
is_address None other = false
is_address (Some address) None = false
is_address (Some address) (Some other) = bytes_eq address other

-- two requests have the same carrying link, the same MLD address and the same links with the same addresses
abbrev pub same_ask : SetupAsk → SetupAsk → Bool
same_ask a b = (a.on == b.on) && bytes_eq a.mld b.mld && pointwise same_address a.macs b.macs

-- the addresses on the links of a set alone
abbrev pub address_on : List (Option (List ℕ)) → ℕ → ℕ → Option (List ℕ)
address_on macs links link = if has_link links link then entry_for macs link else None

abbrev pub addresses_on : List (Option (List ℕ)) → ℕ → List (Option (List ℕ))
addresses_on macs links = each_link (address_on macs links)

-- the statuses of exactly the links that have an address
abbrev pub asked_status : List (Option (List ℕ)) → (ℕ → ℕ) → ℕ → Option ℕ
asked_status macs status link = option_map (λ mac. status link) (entry_for macs link)

abbrev pub asked_statuses : List (Option (List ℕ)) → (ℕ → ℕ) → List (Option ℕ)
asked_statuses macs status = each_link (asked_status macs status)

-- the links that a reply sets up: those that were asked and succeed
abbrev pub is_granted : List (Option (List ℕ)) → List (Option ℕ) → ℕ → Bool
is_granted macs status link = is_named macs link && is_success (entry_for status link)

abbrev pub links_granted : List (Option (List ℕ)) → List (Option ℕ) → ℕ
links_granted macs status = links_that (is_granted macs status)

-- the reply goes over the link of the request, and has a status exactly for the asked links
pub record IsAnswer (ask : SetupAsk) (reply : SetupReply) : Type 0 where
  pub over : reply.on ≡ ask.on
  pub named : (link : ℕ) → link < link_limit → is_named reply.status link ≡ is_named ask.macs link
