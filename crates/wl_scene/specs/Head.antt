-- The members of a scenario outside its commands, each as it is read.
use Rattle.std.specs.Prelude.{ℕ, ◌&&◌, ◌||◌, not, nat_le, nat_lt, suc, if◌then◌else◌, Bool, true, false, List, [], ◌∷◌, map, length, Option, Some, None, option_and_then, bytes_eq, codes}
use Rattle.serde_json.specs.Data.{Data, Items, no_items}
use Rattle.serde_json.specs.Find.{get, as_bool, as_str, as_array}
use Rattle.wl_elem.specs.declared.lane.EndId.{EndId}
use Rattle.wl_elem.specs.declared.lane.EndId.TheVariants.{Ap, Sta}
use Rattle.wl_elem.specs.Lanes.{same_end}
use Rattle.wl_elem.specs.Links.{link_limit, set_with}
use Rattle.wl_history.specs.declared.start.LinkStart.{LinkStart}
use Rattle.wl_history.specs.Ends.{address_on, links_in}
use Rattle.wl_scene.specs.declared.first.First.{First}
use Rattle.wl_scene.specs.declared.first.Firsts.{Firsts}
use Rattle.wl_scene.specs.declared.policy.Denials.{Denials}
use Rattle.wl_scene.specs.declared.head.Head.{Head}
use Rattle.wl_scene.specs.Members.{◌>>=◌, is_among, has_only, has_number, in_range, whole_of, number_at, list_at, octets_at, each_of}
use Rattle.wl_scene.specs.Fields.{end_named, end_at, if_link, key_at, pn_at}

abbrev pub address_at : List ℕ → Data → Option (List ℕ)
address_at name d = octets_at name 6 d

-- ---- links

abbrev pub link_of : Data → Option LinkStart
link_of d = if has_only (codes "id" ∷ codes "ap" ∷ codes "sta" ∷ []) d then (do
  id ← number_at (codes "id") link_limit d
  ap ← address_at (codes "ap") d
  sta ← address_at (codes "sta") d
  Some (record { id = id; ap = ap; sta = sta })) else None

-- the IDs of links are all above this one
abbrev pub all_above : ℕ → List LinkStart → Bool
all_above id [] = true
all_above id (link ∷ links) = nat_lt id link.id && all_above id links

-- each link's ID is below those of the links behind it
abbrev pub ascend : List LinkStart → Bool
ascend [] = true
ascend (link ∷ links) = all_above link.id links && ascend links

-- the addresses of an end on these links
abbrev pub addresses_of : EndId → List LinkStart → List (List ℕ)
addresses_of end links = map (λ link. address_on link end) links

-- no two addresses are the same
abbrev pub all_apart : List (List ℕ) → Bool
all_apart [] = true
all_apart (address ∷ addresses) = not (is_among address addresses) && all_apart addresses

-- these may be the links of a scenario
abbrev pub are_links : List LinkStart → Bool
are_links links = nat_le 1 (length links) && (nat_le (length links) 4 && (ascend links && (all_apart (addresses_of Ap links) && all_apart (addresses_of Sta links))))

abbrev pub if_links : List LinkStart → Option (List LinkStart)
if_links links = if are_links links then Some links else None

abbrev pub links_at : Data → Option (List LinkStart)
links_at d = option_and_then if_links (option_and_then (each_of link_of) (list_at (codes "links") d))

-- ---- whether the links are set up at the start, and the window

abbrev pub associated_from : Option Data → Option Bool
associated_from None = Some true
associated_from (Some d) = as_bool d

abbrev pub associated_at : Data → Option Bool
associated_at d = associated_from (get (codes "associated") d)

abbrev pub window_from : Option Data → Option ℕ
window_from None = Some 64
window_from (Some d) = option_and_then (in_range 1 256) (whole_of d)

abbrev pub window_at : Data → Option ℕ
window_at d = window_from (get (codes "window") d)

-- ---- the links that are accepted

-- the ID of one of the links
abbrev pub id_in : List LinkStart → Data → Option ℕ
id_in links d = option_and_then (if_link links) (whole_of d)

-- the first is at least this number, and each above the one before it
abbrev pub rise_from : ℕ → List ℕ → Bool
rise_from low [] = true
rise_from low (id ∷ ids) = nat_le low id && rise_from (suc id) ids

-- a set with these links in it
abbrev pub with_ids : ℕ → List ℕ → ℕ
with_ids set [] = set
with_ids set (id ∷ ids) = with_ids (set_with set id) ids

abbrev pub if_rising : List ℕ → Option ℕ
if_rising ids = if rise_from 0 ids then Some (with_ids 0 ids) else None

abbrev pub set_of : List LinkStart → Items → Option ℕ
set_of links ds = option_and_then if_rising (each_of (id_in links) ds)

abbrev pub accept_from : List LinkStart → Option Data → Option ℕ
accept_from links None = Some (links_in 0 links)
accept_from links (Some d) = option_and_then (set_of links) (as_array d)

abbrev pub accept_at : List LinkStart → Data → Option ℕ
accept_at links d = accept_from links (get (codes "accept") d)

-- ---- the ends that deny, and what the ends send first

abbrev pub has_end : EndId → List EndId → Bool
has_end end [] = false
has_end end (other ∷ ends) = same_end other end || has_end end ends

-- no end is there twice
abbrev pub are_once : List EndId → Bool
are_once [] = true
are_once (end ∷ ends) = not (has_end end ends) && are_once ends

-- a list that may be left out
abbrev pub items_from : Option Data → Option Items
items_from None = Some no_items
items_from (Some d) = as_array d

abbrev pub denier_of : Data → Option EndId
denier_of d = option_and_then end_named (as_str d)

abbrev pub denials_if : List EndId → Option Denials
denials_if ends = if are_once ends then Some (record { ap = has_end Ap ends; sta = has_end Sta ends }) else None

abbrev pub denials_at : Data → Option Denials
denials_at d = option_and_then denials_if (option_and_then (each_of denier_of) (items_from (get (codes "deny") d)))

abbrev pub first_of : Data → Option First
first_of d = if has_only (codes "end" ∷ codes "key" ∷ codes "pn" ∷ []) d then (do
  end ← end_at d
  key ← key_at d
  pn ← pn_at d
  Some (record { end = end; key = key; pn = pn })) else None

abbrev pub ends_of : List First → List EndId
ends_of firsts = map (λ first. first.end) firsts

-- what an end sends first: what is named, or the first packet number of the first key
abbrev pub first_named : EndId → List First → First
first_named end [] = record { end = end; key = 0; pn = 1 }
first_named end (first ∷ firsts) = if same_end first.end end then first else first_named end firsts

abbrev pub if_once : List First → Option Firsts
if_once firsts = if are_once (ends_of firsts) then Some (record { ap = first_named Ap firsts; sta = first_named Sta firsts }) else None

abbrev pub firsts_at : Data → Option Firsts
firsts_at d = option_and_then if_once (option_and_then (each_of first_of) (items_from (get (codes "first") d)))

-- ---- the head

-- the members outside the commands, and that of the commands
abbrev pub head_names : List (List ℕ)
head_names =
    codes "version" ∷ codes "ap" ∷ codes "sta" ∷ codes "key" ∷ codes "links" ∷ codes "associated" ∷ codes "window" ∷ codes "accept" ∷ codes "deny" ∷ codes "first"
    ∷ codes "before" ∷ []

-- the addresses differ
abbrev pub apart : Head → Option Head
apart head = if bytes_eq head.ap head.sta then None else Some head

unfoldable pub head_of : Data → Option Head
head_of d = if has_only head_names d && has_number (codes "version") 1 d then (do
  ap ← address_at (codes "ap") d
  sta ← address_at (codes "sta") d
  key ← octets_at (codes "key") 16 d
  associated ← associated_at d
  window ← window_at d
  denials ← denials_at d
  firsts ← firsts_at d
  links ← links_at d
  accept ← accept_at links d
  apart (record { ap = ap; sta = sta; key = key; links = links; associated = associated; window = window; accept = accept; denials = denials; firsts = firsts })) else None
