-- What the machines of an end make of its setup, and the message that they make for its peer (IEEE Std
-- 802.11be, 35.3.7). A message goes into the queue of management, and is sent like all that stands there.
use Rattle.std.specs.Prelude.{◌≡◌, ℕ, ◌+◌, ◌<◌, ◌==◌, if◌then◌else◌, Bool, List, slice_set, Option, Some, None, IfSome, Result, Ok, Err}
use Rattle.std.specs.List.{AllByRecursion}
use Rattle.wl_elem.specs.declared.lane.Lane.{Lane}
use Rattle.wl_elem.specs.declared.lane.Lane.TheVariants as lanes
use Rattle.wl_map.specs.declared.change.MapAsk.{MapAsk}
use Rattle.wl_map.specs.declared.change.MapRefusal.{MapRefusal}
use Rattle.wl_map.specs.declared.change.MapRefusal.TheVariants as refusals
use Rattle.wl_map.specs.Ends.{ask_answer, after_ask, status_of, after_on_ask, after_reply, torn_down, after_teardown, closed, standing_token}
use Rattle.wl_message.specs.declared.changes.MapChanges.{MapChanges}
use Rattle.wl_message.specs.declared.changes.MapEntry.{MapEntry}
use Rattle.wl_message.specs.declared.message.Message.{Message}
use Rattle.wl_message.specs.declared.message.Message.TheVariants as messages
use Rattle.wl_message.specs.Message.{changes_of, down_of, up_of, IsChange, IsMessage, IsMade as IsBody}
use Rattle.wl_history.specs.declared.command.Machine.{Machine}
use Rattle.wl_history.specs.declared.command.Machine.TheVariants as machines
use Rattle.wl_history.specs.declared.outcome.Outcome.{Outcome}
use Rattle.wl_history.specs.declared.outcome.Outcome.TheVariants as outcomes
use Rattle.wl_history.specs.declared.setup.Setup.{Setup}

-- what becomes of a setup, and the message made, where one is
pub record Made : Type 0 where
  pub setup : Setup
  pub message : Option Message

-- the windows stay as they are, tokens are of one octet, and a message has octets
pub record IsMade (before : Setup) (made : Made) : Type 0 where
  pub window : made.setup.window ≡ before.window
  pub token : made.setup.token < 256
  pub good : IfSome made.message IsMessage

abbrev pub silent : Setup → Made
silent setup = record { setup = setup; message = None }

abbrev pub telling : Setup → Message → Made
telling setup message = record { setup = setup; message = Some message }

-- ---- keys and radios

-- the next key is held
abbrev pub installed : Outcome → Setup → Made
installed (outcomes.Installed key) setup = silent (record setup { keys = key })
installed other setup = silent setup

-- a radio is switched
abbrev pub switched : ℕ → Bool → Setup → Made
switched link on setup = silent (record setup { radios = slice_set setup.radios link on })

-- ---- requests of an end

-- tokens count from 1 to 255, and then from 1 again
abbrev pub next_token : ℕ → ℕ
next_token token = if token == 255 then 1 else token + 1

abbrev pub map_ask : ℕ → MapChanges → MapAsk
map_ask token changes = record { token = token; down = down_of changes; up = up_of changes }

abbrev pub asked_answer : Result MapAsk MapRefusal → Outcome
asked_answer (Ok ask) = outcomes.Asked ask.token
asked_answer (Err (refusals.Busy token)) = outcomes.Busy token
asked_answer (Err refusals.NotValid) = outcomes.NotValid

-- a request for what these entries ask for
abbrev pub map_ask_answer : List MapEntry → Setup → Outcome
map_ask_answer entries setup = asked_answer (ask_answer setup.maps (map_ask (next_token setup.token) (changes_of entries)))

abbrev pub map_asked : List MapEntry → Outcome → Setup → Made
map_asked entries (outcomes.Asked token) setup =
    telling (record setup { maps = after_ask setup.maps (map_ask token (changes_of entries)); token = token }) (messages.MapAsk token (changes_of entries))
map_asked entries other setup = silent setup

-- a teardown, where a link is set up
abbrev pub teardown_answer : Setup → Outcome
teardown_answer setup = if setup.links == 0 then outcomes.NotValid else outcomes.Sent

abbrev pub map_torn : Outcome → Setup → Made
map_torn outcomes.Sent setup = telling (record setup { maps = torn_down setup.maps }) messages.MapTeardown
map_torn other setup = silent setup

-- the own request is given up, where one stands
abbrev pub given_token : Option ℕ → Outcome
given_token (Some token) = outcomes.Given token
given_token None = outcomes.Nothing

abbrev pub give_up_answer : Machine → Setup → Outcome
give_up_answer machines.Map setup = given_token (standing_token setup.maps)

abbrev pub given : Machine → Outcome → Setup → Made
given machines.Map (outcomes.Given token) setup = silent (record setup { maps = closed setup.maps })
given what other setup = silent setup

-- ---- what comes from the peer

-- A message that is released: a request is answered, a reply and a teardown are taken.
abbrev pub acted : Message → Setup → Made
acted (messages.MapAsk token changes) setup =
    telling (record setup { maps = after_on_ask setup.maps (map_ask token changes) }) (messages.MapReply token (status_of setup.maps (map_ask token changes)))
acted (messages.MapReply token status) setup = silent (record setup { maps = after_reply setup.maps token status })
acted messages.MapTeardown setup = silent (record setup { maps = after_teardown setup.maps })

-- ---- what is known of entries and bodies

-- the bitmaps of an entry are those of eight TIDs
abbrev pub IsEntry : MapEntry → Type 0
IsEntry entry = IsChange entry.change

abbrev pub AreEntries : List MapEntry → Type 0
AreEntries entries = AllByRecursion IsEntry entries

-- a body of management is one that an end makes
abbrev pub IsBodyOn : Lane → List ℕ → Type 0
IsBodyOn (lanes.Tid tid) body = Unit {0}
IsBodyOn lanes.Management body = IsBody body
