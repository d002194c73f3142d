-- The AP's end of multi-link setup (IEEE Std 802.11be, 35.3.5).
use Rattle.std.specs.Prelude.{◌≡◌, ℕ, ◌==◌, ◌&&◌, Bool, true, List, Option, Some, None, bytes_eq, if◌then◌else◌}
use Rattle.wl_elem.specs.Links.{has_link}
use Rattle.wl_setup.specs.declared.message.Exchange.{Exchange}
use Rattle.wl_setup.specs.declared.message.SetupAsk.{SetupAsk}
use Rattle.wl_setup.specs.declared.message.SetupReply.{SetupReply}
use Rattle.wl_setup.specs.Messages.{IsAnswer, is_address, same_ask, asked_statuses, links_granted}
use Rattle.wl_setup.specs.Status.{success, unspecified_failure, status_of, status_beside}
use Rattle.wl_setup.specs.Table.{entry_for, is_named}

-- an AP: the station's addresses, the links that it accepts, the links set up, and the request with which it became
-- associated, with its reply
pub record ApState : Type 0 where
  pub mld : List ℕ
  pub macs : List (Option (List ℕ))
  pub accept : ℕ
  pub links : ℕ
  pub joined : Option Exchange

-- what an asked link deserves
abbrev pub status_on : ApState → SetupAsk → ℕ → ℕ → ℕ
status_on ap ask powered link =
    status_of (is_address (entry_for ap.macs link) (entry_for ask.macs link)) (has_link ap.accept link) (has_link powered link)

-- the carrying link succeeds
abbrev pub is_carried : ApState → SetupAsk → ℕ → Bool
is_carried ap ask powered = status_on ap ask powered ask.on == success

-- the status that an asked link gets, by whether the carrying link succeeds
abbrev pub status_given : Bool → ApState → SetupAsk → ℕ → ℕ → ℕ
status_given carried ap ask powered link = status_beside carried (status_on ap ask powered link)

-- the reply of an AP with no link set up
abbrev pub first_reply : ApState → SetupAsk → ℕ → SetupReply
first_reply ap ask powered = record {
  on = ask.on;
  status = asked_statuses ask.macs (status_given (is_carried ap ask powered) ap ask powered);
}

-- the reply that refuses each asked link
abbrev pub refusal_of : SetupAsk → SetupReply
refusal_of ask = record { on = ask.on; status = asked_statuses ask.macs (λ link. unspecified_failure) }

-- the reply of an AP with links set up: to the request with which it became associated the same reply again
abbrev pub later_reply : Option Exchange → SetupAsk → SetupReply
later_reply None ask = refusal_of ask
later_reply (Some joined) ask = if same_ask joined.ask ask then joined.reply else refusal_of ask

-- the reply to a request to this station's MLD address, and none to another one
abbrev pub ask_answer : ApState → SetupAsk → ℕ → Option SetupReply
ask_answer ap ask powered =
    if bytes_eq ask.mld ap.mld
    then Some (if ap.links == 0 then first_reply ap ask powered else later_reply ap.joined ask)
    else None

-- the AP becomes associated by the request
abbrev pub is_joining : ApState → SetupAsk → ℕ → Bool
is_joining ap ask powered = bytes_eq ask.mld ap.mld && (ap.links == 0) && is_carried ap ask powered

-- the AP after a request with which it becomes associated
abbrev pub associated : ApState → SetupAsk → SetupReply → ApState
associated ap ask reply =
    record ap { links = links_granted ask.macs reply.status; joined = Some (record { ask = ask; reply = reply }) }

-- the AP after a request
abbrev pub after_ask : ApState → SetupAsk → ℕ → ApState
after_ask ap ask powered = if is_joining ap ask powered then associated ap ask (first_reply ap ask powered) else ap

-- what the AP remembers is a request, and a reply that answers it
abbrev pub IsRemembered : Option Exchange → Type 0
IsRemembered None = Unit {0}
IsRemembered (Some joined) = IsAnswer joined.ask joined.reply

-- the AP may set up a link by a request: the link is asked with the station's address there, the AP accepts it, and
-- the AP's radio is on there
pub record IsGrantable (ap : ApState) (ask : SetupAsk) (powered link : ℕ) : Type 0 where
  pub asked : is_named ask.macs link ≡ true
  pub address : entry_for ask.macs link ≡ entry_for ap.macs link
  pub accepted : has_link ap.accept link ≡ true
  pub radio_on : has_link powered link ≡ true

-- the request gets this reply, and nothing changes
pub record IsRepeated (ap : ApState) (ask : SetupAsk) (reply : SetupReply) (powered : ℕ) : Type 0 where
  pub again : ask_answer ap ask powered ≡ Some reply
  pub unchanged : after_ask ap ask powered ≡ ap
