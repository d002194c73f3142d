-- The bodies of Action frames that ends make of their own accord, and what each says (IEEE Std 802.11be, 9.6.35).
--
-- | message     | octets                                                                        |
-- |-------------|-------------------------------------------------------------------------------|
-- | MapAsk      | 37, 0, token, one TID-To-Link Mapping element a direction, or one for both    |
-- | MapReply    | 37, 1, token, status 2                                                        |
-- | MapTeardown | 37, 2                                                                         |
--
-- A mapping element that an end makes has its direction (0 downlink, 1 uplink, 2 both), and then either the
-- default bit or the presence octet and two octets for each TID that is named. It has no switch time, no
-- duration and no tail. Numbers have their lowest octet first.
use Rattle.std.specs.Prelude.{◌≡◌, ℕ, zero, suc, ◌+◌, ◌-◌, ◌/◌, ◌%◌, ◌<◌, ◌==◌, ◌||◌, if◌then◌else◌, is_some, Bool, true, List, [], ◌∷◌, ◌++◌, length, take, drop, slice_index, Option, Some, None, IfSome}
use Rattle.std.specs.List.{AllByRecursion}
use Rattle.wl_elem.specs.Bits.{has_bit}
use Rattle.wl_elem.specs.Fields.{Fits, word_at}
use Rattle.wl_elem.specs.Octets.{octets_of}
use Rattle.wl_ttlm.specs.Ttlm.{presence, mappings}
use Rattle.wl_map.specs.declared.change.Change.{Change}
use Rattle.wl_map.specs.declared.change.Change.TheVariants.{Default, Sets}
use Rattle.wl_message.specs.declared.changes.MapChanges.{MapChanges}
use Rattle.wl_message.specs.declared.changes.MapChanges.TheVariants.{Both, Each}
use Rattle.wl_message.specs.declared.changes.MapEntry.{MapEntry}
use Rattle.wl_message.specs.declared.changes.Ways.{Ways}
use Rattle.wl_message.specs.declared.changes.Ways.TheVariants as ways
use Rattle.wl_message.specs.declared.message.Message.{Message}
use Rattle.wl_message.specs.declared.message.Message.TheVariants.{MapAsk, MapReply, MapTeardown}

-- ---- what a request for mappings asks for

abbrev pub down_of : MapChanges → Option Change
down_of (Both change) = Some change
down_of (Each down up) = down

abbrev pub up_of : MapChanges → Option Change
up_of (Both change) = Some change
up_of (Each down up) = up

-- a direction is named
abbrev pub is_named : MapChanges → Bool
is_named changes = is_some (down_of changes) || is_some (up_of changes)

abbrev pub no_changes : MapChanges
no_changes = Each None None

-- one entry
abbrev pub by_ways : Ways → Change → MapChanges
by_ways ways.Down change = Each (Some change) None
by_ways ways.Up change = Each None (Some change)
by_ways ways.Both change = Both change

abbrev pub by_entry : MapEntry → MapChanges
by_entry entry = by_ways entry.ways entry.change

-- two entries, one for each direction; where they name a direction twice they name none
abbrev pub joined : MapChanges → MapChanges → MapChanges
joined (Each (Some down) None) (Each None (Some up)) = Each (Some down) (Some up)
joined (Each None (Some up)) (Each (Some down) None) = Each (Some down) (Some up)
joined a b = no_changes

-- What entries ask for. Where there are none, more than two, or a direction is named twice, they name none.
abbrev pub changes_of : List MapEntry → MapChanges
changes_of [] = no_changes
changes_of (a ∷ []) = by_entry a
changes_of (a ∷ b ∷ []) = joined (by_entry a) (by_entry b)
changes_of (a ∷ b ∷ c ∷ more) = no_changes

-- ---- octets

-- a TID-To-Link Mapping element with this body, which is short
abbrev pub mapping_element : List ℕ → List ℕ
mapping_element body = 255 ∷ suc (length body) ∷ 109 ∷ body

abbrev pub change_body : ℕ → Change → List ℕ
change_body direction Default = (direction + 4) ∷ []
change_body direction (Sets maps) = direction ∷ presence maps ∷ mappings 2 maps

abbrev pub change_element : ℕ → Option Change → List ℕ
change_element direction None = []
change_element direction (Some change) = mapping_element (change_body direction change)

abbrev pub elements_of : MapChanges → List ℕ
elements_of (Both change) = change_element 2 (Some change)
elements_of (Each down up) = change_element 0 down ++ change_element 1 up

abbrev pub message_octets : Message → List ℕ
message_octets (MapAsk token changes) = 37 ∷ 0 ∷ token ∷ elements_of changes
message_octets (MapReply token status) = 37 ∷ 1 ∷ token ∷ octets_of 2 status
message_octets MapTeardown = 37 ∷ 2 ∷ []

-- ---- which messages there are

-- the bitmaps of eight TIDs, of 16 bits each
abbrev pub IsChange : Change → Type 0
IsChange Default = Unit {0}
IsChange (Sets maps) = (length maps ≡ 8) × AllByRecursion (Fits 2) maps

pub record IsChanges (changes : MapChanges) : Type 0 where
  pub named : is_named changes ≡ true
  pub down : IfSome (down_of changes) IsChange
  pub up : IfSome (up_of changes) IsChange

abbrev pub IsMessage : Message → Type 0
IsMessage (MapAsk token changes) = (token < 256) × IsChanges changes
IsMessage (MapReply token status) = (token < 256) × (status < 65536)
IsMessage MapTeardown = Unit {0}

-- the body is one that an end makes
abbrev pub IsMade : List ℕ → Type 0
IsMade body = (m : Message) × IsMessage m × (body ≡ message_octets m)

-- ---- what a body says

-- so many bitmaps, by the bits of the TIDs that have one
unfoldable pub maps_in : ℕ → ℕ → List ℕ → List (Option ℕ)
maps_in zero present octets = []
maps_in (suc count) present octets =
    if present % 2 == 1 then Some (word_at octets 0) ∷ maps_in count (present / 2) (drop 2 octets)
    else None ∷ maps_in count (present / 2) octets

-- the change that the body of a mapping element asks for
abbrev pub change_in : List ℕ → Change
change_in body = if has_bit (slice_index body 0) 4 then Default else Sets (maps_in 8 (slice_index body 1) (drop 2 body))

-- the body of the first element, and what stands behind that
abbrev pub first_body : List ℕ → List ℕ
first_body octets = take (slice_index octets 1 - 1) (drop 3 octets)

abbrev pub behind_first : List ℕ → List ℕ
behind_first octets = drop (2 + slice_index octets 1) octets

abbrev pub change_if : List ℕ → Option Change
change_if [] = None
change_if (octet ∷ octets) = Some (change_in (first_body (octet ∷ octets)))

-- what a first element asks for, of this direction, beside the change of a second one
abbrev pub by_direction : ℕ → Change → Option Change → MapChanges
by_direction direction change second =
    if direction == 2 then Both change
    else if direction == 1 then Each None (Some change)
    else Each (Some change) second

abbrev pub changes_in : List ℕ → MapChanges
changes_in octets = by_direction (slice_index (first_body octets) 0 % 4) (change_in (first_body octets)) (change_if (behind_first octets))

-- The message whose octets the body is. Of a body that no end makes it says nothing.
unfoldable pub message_of : List ℕ → Message
message_of body =
    if slice_index body 1 == 0 then MapAsk (slice_index body 2) (changes_in (drop 3 body))
    else if slice_index body 1 == 1 then MapReply (slice_index body 2) (word_at body 3)
    else MapTeardown

-- the body read as a message, or as none that an end makes
abbrev pub ReadAs : List ℕ → Option Message → Type 0
ReadAs body (Some m) = IsMessage m × (body ≡ message_octets m)
ReadAs body None = IsMade body → ⊥
