-- The entries of a request for mappings: a list of at most two objects, each with exactly the members `dir` and
-- `map`, or `dir` and `default`.
--
-- | member  | value                                                                             |
-- |---------|-----------------------------------------------------------------------------------|
-- | dir     | down, up or both                                                                  |
-- | map     | a list of eight, one for each TID from 0 to 7: the bitmap of its links, a number  |
-- |         | up to 65,535, or null where the TID is to keep its links                          |
-- | default | true: the direction is to have the default mapping                                |
use Rattle.std.specs.Prelude.{ℕ, ◌==◌, ◌^◌, ◌&&◌, nat_le, if◌then◌else◌, is_some, List, [], ◌∷◌, Option, Some, None, option_and_then, option_map, bytes_eq, codes}
use Rattle.serde_json.specs.Data.{Data, Items}
use Rattle.serde_json.specs.Events.{items_len}
use Rattle.serde_json.specs.Find.{as_null}
use Rattle.wl_map.specs.declared.change.Change.{Change}
use Rattle.wl_map.specs.declared.change.Change.TheVariants.{Default, Sets}
use Rattle.wl_message.specs.declared.changes.MapEntry.{MapEntry}
use Rattle.wl_message.specs.declared.changes.Ways.{Ways}
use Rattle.wl_message.specs.declared.changes.Ways.TheVariants.{Down, Up, Both}
use Rattle.wl_scene.specs.Members.{◌>>=◌, below, has_only, has_true, whole_of, text_at, list_at, each_of}

-- directions by their name
abbrev pub ways_named : List ℕ → Option Ways
ways_named name = if bytes_eq name (codes "down") then Some Down else if bytes_eq name (codes "up") then Some Up else if bytes_eq name (codes "both") then Some Both else None

abbrev pub ways_at : Data → Option Ways
ways_at d = option_and_then ways_named (text_at (codes "dir") d)

-- a bitmap of links, or null
abbrev pub bitmap_of : Data → Option (Option ℕ)
bitmap_of d = if is_some (as_null d) then Some None else option_map Some (option_and_then (below (2 ^ 16)) (whole_of d))

-- the bitmaps of eight TIDs
abbrev pub bitmaps_of : Items → Option (List (Option ℕ))
bitmaps_of ds = if items_len ds == 8 then each_of bitmap_of ds else None

abbrev pub bitmaps_at : Data → Option (List (Option ℕ))
bitmaps_at d = option_and_then bitmaps_of (list_at (codes "map") d)

-- what the directions of an entry are to become
abbrev pub change_of : Data → Option Change
change_of d =
    if has_only (codes "dir" ∷ codes "map" ∷ []) d then option_map Sets (bitmaps_at d)
    else if has_only (codes "dir" ∷ codes "default" ∷ []) d && has_true (codes "default") d then Some Default
    else None

abbrev pub entry_of : Data → Option MapEntry
entry_of d = do
  ways ← ways_at d
  change ← change_of d
  Some (record { ways = ways; change = change })

abbrev pub entries_of : Items → Option (List MapEntry)
entries_of ds = if nat_le (items_len ds) 2 then each_of entry_of ds else None

abbrev pub entries_at : Data → Option (List MapEntry)
entries_at d = option_and_then entries_of (list_at (codes "entries") d)
