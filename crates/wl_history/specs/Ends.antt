-- What an end starts with, and what it has set up: addresses, links, sizes.
use Rattle.std.specs.Prelude.{ℕ, ◌==◌, ◌||◌, not, if◌then◌else◌, Bool, true, false, is_some, List, [], ◌∷◌, Option, Some, None, ◌≡◌, ◌<◌, ◌≤◌, ◌^◌, length, slice_index, slice_index_or}
use Rattle.std.specs.List.{list_any}
use Rattle.wl_elem.specs.declared.lane.EndId.{EndId}
use Rattle.wl_elem.specs.declared.lane.EndId.TheVariants.{Ap, Sta}
use Rattle.wl_elem.specs.declared.lane.Direction.{Direction}
use Rattle.wl_elem.specs.declared.lane.Direction.TheVariants.{Down, Up}
use Rattle.wl_elem.specs.declared.lane.Lane.{Lane}
use Rattle.wl_elem.specs.declared.lane.Lane.TheVariants.{Tid, Management}
use Rattle.wl_elem.specs.Lanes.{lane_index}
use Rattle.wl_elem.specs.Links.{has_link, set_with}
use Rattle.wl_map.specs.Ends.{agreed_sets, opened}
use Rattle.wl_history.specs.declared.outcome.KeptWhy.{KeptWhy}
use Rattle.wl_history.specs.declared.outcome.KeptWhy.TheVariants.{NotSetUp, Unpowered, Unmapped}
use Rattle.wl_history.specs.declared.setup.Setup.{Setup}
use Rattle.wl_history.specs.declared.start.LinkStart.{LinkStart}
use Rattle.wl_history.specs.declared.start.EndStart.{EndStart}
use Rattle.wl_history.specs.declared.start.Start.{Start}

abbrev pub start_of : Start → EndId → EndStart
start_of start Ap = start.ap
start_of start Sta = start.sta

-- the MLD address of an end
abbrev pub mld_of : EndStart → EndId → List ℕ
mld_of start Ap = start.ap
mld_of start Sta = start.sta

-- the address of an end on a link
abbrev pub address_on : LinkStart → EndId → List ℕ
address_on link Ap = link.ap
address_on link Sta = link.sta

abbrev pub link_at : ℕ → List LinkStart → Option LinkStart
link_at id [] = None
link_at id (link ∷ links) = if link.id == id then Some link else link_at id links

-- the address of an end on the link of this ID, none where there is no such link
abbrev pub address_if : Option LinkStart → EndId → List ℕ
address_if None end = []
address_if (Some link) end = address_on link end

abbrev pub link_address : EndStart → ℕ → EndId → List ℕ
link_address start id end = address_if (link_at id start.links) end

abbrev pub is_link : EndStart → ℕ → Bool
is_link start id = is_some (link_at id start.links)

-- a set with the links of a list in it
abbrev pub links_in : ℕ → List LinkStart → ℕ
links_in set [] = set
links_in set (link ∷ links) = links_in (set_with set link.id) links

-- the links set up at the start: all, or none
abbrev pub links_begun : EndStart → ℕ
links_begun start = if start.associated then links_in 0 start.links else 0

-- by link ID, all radios on
abbrev pub all_on : List Bool
all_on = true ∷ true ∷ true ∷ true ∷ true ∷ true ∷ true ∷ true ∷ true ∷ true ∷ true ∷ true ∷ true ∷ true ∷ true ∷ []

-- what an end has set up at the start: both directions have the default mapping, and nothing was asked for
abbrev pub setup_begun : EndStart → Setup
setup_begun start = record {
  links = links_begun start;
  radios = all_on;
  window = start.window;
  keys = start.newest;
  maps = opened start.deny (links_begun start);
  token = 0;
}

-- ---- where frames may go (IEEE Std 802.11be, 35.3.7)

abbrev pub is_set_up : Setup → ℕ → Bool
is_set_up setup id = has_link setup.links id

abbrev pub is_powered : Setup → ℕ → Bool
is_powered setup id = slice_index_or setup.radios id false

-- the direction in which an end sends
abbrev pub own_way : EndId → Direction
own_way Ap = Down
own_way Sta = Up

-- some TID has the link in the direction
abbrev pub has_some : Direction → Setup → ℕ → Bool
has_some d setup id = list_any (λ set. has_link set id) (agreed_sets d setup.maps)

-- An end's agreed mapping has the link for a lane: for data that of its own direction for the TID, for management
-- either for some TID.
abbrev pub is_mapped : EndId → Setup → Lane → ℕ → Bool
is_mapped e setup (Tid tid) id = has_link (slice_index (agreed_sets (own_way e) setup.maps) tid) id
is_mapped e setup Management id = has_some Down setup id || has_some Up setup id

-- an end may send a frame of the lane over the link
pub record IsAllowed (e : EndId) (setup : Setup) (lane : Lane) (id : ℕ) : Type 0 where
  pub set_up : is_set_up setup id ≡ true
  pub powered : is_powered setup id ≡ true
  pub mapped : is_mapped e setup lane id ≡ true

-- why it may not: the first reason that holds
abbrev pub why_kept : EndId → Setup → Lane → ℕ → Option KeptWhy
why_kept e setup lane id =
    if not (is_set_up setup id) then Some NotSetUp
    else if not (is_powered setup id) then Some Unpowered
    else if not (is_mapped e setup lane id) then Some Unmapped
    else None

-- ---- sizes

-- how many positions from its base on an originator may have granted, by the place of the lane
abbrev pub send_size : Setup → ℕ → ℕ
send_size setup place = if place == lane_index Management then 16 else setup.window

-- how many numbers a recipient's window has, by the place of the lane
abbrev pub receive_size : Setup → ℕ → ℕ
receive_size setup place = if place == lane_index Management then 1 else setup.window

-- windows have the sizes that block ack agreements may have here
pub record IsSetup (setup : Setup) : Type 0 where
  pub some_window : 1 ≤ setup.window
  pub window_limit : setup.window ≤ 256

-- what both ends share, and what each is
pub record IsStart (start : Start) : Type 0 where
  pub ap_end : start.ap.end ≡ Ap
  pub sta_end : start.sta.end ≡ Sta
  pub ap_same : start.sta.ap ≡ start.ap.ap
  pub sta_same : start.sta.sta ≡ start.ap.sta
  pub key_same : start.sta.key ≡ start.ap.key
  pub links_same : start.sta.links ≡ start.ap.links
  pub ap_six : length start.ap.ap ≡ 6
  pub sta_six : length start.ap.sta ≡ 6
  pub some_window : (e : EndId) → 1 ≤ (start_of start e).window
  pub window_limit : (e : EndId) → (start_of start e).window ≤ 256
  pub some_pn : (e : EndId) → 1 ≤ (start_of start e).first_pn
  pub pn_limit : (e : EndId) → (start_of start e).first_pn < 2 ^ 48
