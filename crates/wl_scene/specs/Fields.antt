-- Members that commands have in common.
use Rattle.std.specs.Prelude.{ℕ, ◌-◌, ◌^◌, ◌&&◌, nat_le, if◌then◌else◌, Bool, is_some, List, length, Option, Some, None, option_and_then, option_map, bytes_eq, codes}
use Rattle.serde_json.specs.Data.{Data}
use Rattle.serde_json.specs.Find.{get}
use Rattle.wl_elem.specs.declared.lane.EndId.{EndId}
use Rattle.wl_elem.specs.declared.lane.EndId.TheVariants.{Ap, Sta}
use Rattle.wl_elem.specs.declared.lane.Lane.{Lane}
use Rattle.wl_elem.specs.declared.lane.Lane.TheVariants.{Tid, Management}
use Rattle.wl_elem.specs.Element.{msdu_limit}
use Rattle.wl_history.specs.declared.command.Machine.{Machine}
use Rattle.wl_history.specs.declared.command.Machine.TheVariants as machines
use Rattle.wl_history.specs.declared.start.LinkStart.{LinkStart}
use Rattle.wl_history.specs.Ends.{link_at}
use Rattle.wl_history.specs.Legal.{octets_limit}
use Rattle.wl_scene.specs.Members.{below, has_text, whole_of, whole_at, number_at, ranged_at, text_at, bool_at, hex_at}

-- an end by its name
abbrev pub end_named : List ℕ → Option EndId
end_named name = if bytes_eq name (codes "ap") then Some Ap else if bytes_eq name (codes "sta") then Some Sta else None

abbrev pub end_at : Data → Option EndId
end_at d = option_and_then end_named (text_at (codes "end") d)

abbrev pub tid_at : Data → Option ℕ
tid_at d = number_at (codes "tid") 8 d

-- the lane of a TID's data by its number, management by its letter
abbrev pub lane_at : Data → Option Lane
lane_at d = if has_text (codes "lane") (codes "m") d then Some Management else option_map Tid (number_at (codes "lane") 8 d)

-- the number, where it is the ID of one of the links
abbrev pub if_link : List LinkStart → ℕ → Option ℕ
if_link links n = if is_some (link_at n links) then Some n else None

abbrev pub link_in : List LinkStart → Data → Option ℕ
link_in links d = option_and_then (if_link links) (whole_at (codes "link") d)

abbrev pub key_at : Data → Option ℕ
key_at d = number_at (codes "key") (2 ^ 16) d

abbrev pub pn_at : Data → Option ℕ
pn_at d = ranged_at (codes "pn") 1 (2 ^ 48 - 1) d

abbrev pub sized : List ℕ → Option (List ℕ)
sized body = if nat_le 1 (length body) && nat_le (length body) msdu_limit then Some body else None

-- an MSDU
abbrev pub body_at : Data → Option (List ℕ)
body_at d = option_and_then sized (hex_at (codes "body") d)

abbrev pub limited : List ℕ → Option (List ℕ)
limited octets = if nat_le (length octets) octets_limit then Some octets else None

-- octets that are put before an end
abbrev pub injected_at : Data → Option (List ℕ)
injected_at d = option_and_then limited (hex_at (codes "hex") d)

-- a position
abbrev pub position_at : List ℕ → Data → Option ℕ
position_at name d = number_at name (2 ^ 32) d

-- a sequence number
abbrev pub sequence_at : Data → Option ℕ
sequence_at d = number_at (codes "number") 4096 d

-- a number that may be left out
abbrev pub nth_from : Option Data → Option (Option ℕ)
nth_from None = Some None
nth_from (Some d) = option_map Some (option_and_then (below (2 ^ 32)) (whole_of d))

abbrev pub nth_at : Data → Option (Option ℕ)
nth_at d = nth_from (get (codes "nth") d)

-- whether a radio is on
abbrev pub on_at : Data → Option Bool
on_at d = bool_at (codes "on") d

-- what an end asked for, by its name
abbrev pub machine_named : List ℕ → Option Machine
machine_named name = if bytes_eq name (codes "map") then Some machines.Map else None

abbrev pub machine_at : Data → Option Machine
machine_at d = option_and_then machine_named (text_at (codes "what") d)
