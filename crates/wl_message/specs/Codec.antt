-- For private contracts alone: the values of the codecs that stand for a message, and what reading them back
-- answers.
use Rattle.std.specs.Prelude.{◌≡◌, ◌≢◌, ℕ, ◌<◌, ◌==◌, if◌then◌else◌, Bool, true, false, List, [], ◌∷◌, ◌++◌, Option, Some, None, IfSome}
use Rattle.wl_elem.specs.Element.{ElementValue}
use Rattle.wl_elem.specs.Identity.{extended_id, tid_to_link_mapping}
use Rattle.wl_ttlm.specs.declared.ttlm.Ttlm.{Ttlm}
use Rattle.wl_map.specs.declared.change.Change.{Change}
use Rattle.wl_map.specs.declared.change.Change.TheVariants.{Default, Sets}
use Rattle.wl_action.specs.declared.action.Action.{Action}
use Rattle.wl_action.specs.declared.action.Action.TheVariants as actions
use Rattle.wl_message.specs.declared.changes.MapChanges.{MapChanges}
use Rattle.wl_message.specs.declared.changes.MapChanges.TheVariants.{Both, Each}
use Rattle.wl_message.specs.declared.changes.MapEntry.{MapEntry}
use Rattle.wl_message.specs.declared.changes.Ways.{Ways}
use Rattle.wl_message.specs.declared.changes.Ways.TheVariants as ways
use Rattle.wl_message.specs.declared.message.Message.{Message}
use Rattle.wl_message.specs.declared.message.Message.TheVariants.{MapAsk, MapReply, MapTeardown}
use Rattle.wl_message.specs.Message.{down_of, up_of, is_named, change_body, message_octets, IsChange, IsChanges, IsMessage}

-- ---- what is written

-- the value of a mapping element of this direction, without the fields that no message has
abbrev pub ttlm_with : ℕ → Bool → List (Option ℕ) → Ttlm
ttlm_with direction default maps = record {
  direction = direction;
  default = default;
  spare = 0;
  narrow = false;
  switch = None;
  duration = None;
  maps = maps;
  tail = [];
}

abbrev pub no_maps : List (Option ℕ)
no_maps = None ∷ None ∷ None ∷ None ∷ None ∷ None ∷ None ∷ None ∷ []

abbrev pub ttlm_of : ℕ → Change → Ttlm
ttlm_of direction Default = ttlm_with direction true no_maps
ttlm_of direction (Sets maps) = ttlm_with direction false maps

abbrev pub element_of : ℕ → Change → ElementValue
element_of direction change = record { id = extended_id; ext = Some tid_to_link_mapping; body = change_body direction change }

abbrev pub element_if : ℕ → Option Change → List ElementValue
element_if direction None = []
element_if direction (Some change) = element_of direction change ∷ []

abbrev pub element_list : MapChanges → List ElementValue
element_list (Both change) = element_if 2 (Some change)
element_list (Each down up) = element_if 0 down ++ element_if 1 up

-- the value of the body
abbrev pub action_of : Message → Action
action_of (MapAsk token changes) = actions.MapAsk token (element_list changes)
action_of (MapReply token status) = actions.MapReply token status []
action_of MapTeardown = actions.MapTeardown []

-- ---- what is read back

abbrev pub ways_of : ℕ → Ways
ways_of direction = if direction == 0 then ways.Down else if direction == 1 then ways.Up else ways.Both

abbrev pub change_of : Bool → List (Option ℕ) → Change
change_of true maps = Default
change_of false maps = Sets maps

-- the entry that an element of this value stands for
abbrev pub entry_in : Ttlm → MapEntry
entry_in t = record { ways = ways_of t.direction; change = change_of t.default t.maps }

-- The entry that was read has the default or eight bitmaps. Of an element of a message it is the message's.
pub record IsEntry (e : ElementValue) (entry : Option MapEntry) : Type 0 where
  pub valid : IfSome entry (λ x. IsChange x.change)
  pub only : (direction : ℕ) (change : Change) → direction < 3 → IsChange change → e ≡ element_of direction change → entry ≡ Some (record { ways = ways_of direction; change = change })

-- The changes that were read have the default or eight bitmaps. Of the elements of a message they are the
-- message's.
pub record AreChanges (list : List ElementValue) (changes : MapChanges) : Type 0 where
  pub down : IfSome (down_of changes) IsChange
  pub up : IfSome (up_of changes) IsChange
  pub only : (asked : MapChanges) → IsChanges asked → list ≡ element_list asked → changes ≡ asked

-- a request, where a direction is named
abbrev pub ask_of : ℕ → MapChanges → Option Message
ask_of token changes = if is_named changes then Some (MapAsk token changes) else None

-- What was made of the value is a message. Of the value that stands for a message it is this message.
pub record IsCandidate (action : Action) (candidate : Option Message) : Type 0 where
  pub valid : IfSome candidate IsMessage
  pub only : (m : Message) → IsMessage m → action ≡ action_of m → candidate ≡ Some m

-- the message exactly where the body is its octets
abbrev pub IsChecked : Message → List ℕ → Option Message → Type 0
IsChecked m body (Some n) = (n ≡ m) × (body ≡ message_octets m)
IsChecked m body None = body ≢ message_octets m
