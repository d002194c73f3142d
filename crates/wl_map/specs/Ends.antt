-- One end of the negotiation of TID-to-link mappings (IEEE Std 802.11be, 35.3.7).
use Rattle.std.specs.Prelude.{ℕ, ◌<◌, ◌==◌, ◌&&◌, ◌||◌, not, if◌then◌else◌, Bool, true, false, List, is_some, is_none, Option, Some, None, Result, Ok, Err, option_map}
use Rattle.wl_elem.specs.declared.lane.Direction.{Direction}
use Rattle.wl_elem.specs.declared.lane.Direction.TheVariants.{Down, Up}
use Rattle.wl_elem.specs.Links.{set_limit}
use Rattle.wl_map.specs.declared.agreed.Agreed.{Agreed}
use Rattle.wl_map.specs.declared.agreed.Agreed.TheVariants as agreed
use Rattle.wl_map.specs.declared.change.MapAsk.{MapAsk}
use Rattle.wl_map.specs.declared.change.MapRefusal.{MapRefusal}
use Rattle.wl_map.specs.declared.change.MapRefusal.TheVariants.{Busy, NotValid}
use Rattle.wl_map.specs.Agreeing.{IsAgreed, sets_of, becomes, becomes_cut, cut_to, is_valid_if}

pub record MapState : Type 0 where
  -- whether each ask of the peer is denied
  pub deny : Bool
  -- the links set up
  pub links : ℕ
  -- from the AP to the station
  pub down : Agreed
  -- from the station to the AP
  pub up : Agreed
  -- the own ask that no reply was taken of yet
  pub asked : Option MapAsk

abbrev pub made : Bool → ℕ → Agreed → Agreed → Option MapAsk → MapState
made deny links down up asked = record { deny = deny; links = links; down = down; up = up; asked = asked }

-- in both directions each TID has a link, and only links set up, unless the direction is the default
pub record IsMapState (s : MapState) : Type 0 where
  pub links : s.links < set_limit
  pub down : IsAgreed s.links s.down
  pub up : IsAgreed s.links s.up

-- both directions have the default, and no ask stands
abbrev pub opened : Bool → ℕ → MapState
opened deny links = made deny links agreed.Default agreed.Default None

abbrev pub of_direction : Direction → MapState → Agreed
of_direction Down s = s.down
of_direction Up s = s.up

-- the links of each TID in the direction
abbrev pub agreed_sets : Direction → MapState → List ℕ
agreed_sets d s = sets_of s.links (of_direction d s)

-- a direction is named, and each change named is valid
abbrev pub is_valid_ask : MapState → MapAsk → Bool
is_valid_ask s ask = (is_some ask.down || is_some ask.up) && (is_valid_if s.links s.down ask.down && is_valid_if s.links s.up ask.up)

-- the answer to a wish to ask, beside the ask that stands
abbrev pub asking : Option MapAsk → Bool → MapAsk → Result MapAsk MapRefusal
asking (Some own) valid ask = Err (Busy own.token)
asking None true ask = Ok ask
asking None false ask = Err NotValid

abbrev pub ask_answer : MapState → MapAsk → Result MapAsk MapRefusal
ask_answer s ask = asking s.asked (is_valid_ask s ask) ask

-- the ask stands, where it is one, and no mapping changes
abbrev pub after_ask : MapState → MapAsk → MapState
after_ask s ask = if is_none s.asked && is_valid_ask s ask then made s.deny s.links s.down s.up (Some ask) else s

-- an end takes an ask of its peer where none of its own stands, it doesn't deny all, and the ask is valid
abbrev pub accepts : MapState → MapAsk → Bool
accepts s ask = is_none s.asked && (not s.deny && is_valid_ask s ask)

-- the status that answers the peer's ask: 0 is success, 133 denies the mapping
abbrev pub status_of : MapState → MapAsk → ℕ
status_of s ask = if accepts s ask then 0 else 133

abbrev pub after_on_ask : MapState → MapAsk → MapState
after_on_ask s ask = if accepts s ask then made s.deny s.links (becomes s.links s.down ask.down) (becomes s.links s.up ask.up) s.asked else s

-- the ask with this token stands
abbrev pub is_asked : Option MapAsk → ℕ → Bool
is_asked None token = false
is_asked (Some own) token = own.token == token

abbrev pub takes_reply : MapState → ℕ → Bool
takes_reply s token = is_asked s.asked token

-- no ask stands
abbrev pub closed : MapState → MapState
closed s = made s.deny s.links s.down s.up None

-- what was asked is agreed, cut to the links set up, and no ask stands
abbrev pub adopted : MapState → MapAsk → MapState
adopted s own = made s.deny s.links (becomes_cut s.links s.down own.down) (becomes_cut s.links s.up own.up) None

-- a reply of this status to the ask that stands is taken
abbrev pub replied : Option MapAsk → MapState → ℕ → MapState
replied None s status = s
replied (Some own) s status = if status == 0 then adopted s own else closed s

abbrev pub after_reply : MapState → ℕ → ℕ → MapState
after_reply s token status = if takes_reply s token then replied s.asked s status else s

-- the own teardown
abbrev pub torn_down : MapState → MapState
torn_down s = made s.deny s.links agreed.Default agreed.Default None

-- a teardown of the peer
abbrev pub after_teardown : MapState → MapState
after_teardown s = made s.deny s.links agreed.Default agreed.Default s.asked

-- the token of the ask that stands
abbrev pub standing_token : MapState → Option ℕ
standing_token s = option_map (λ (own : MapAsk). own.token) s.asked

-- the links set up become these
abbrev pub with_links : MapState → ℕ → MapState
with_links s links = made s.deny links (cut_to links s.down) (cut_to links s.up) s.asked
