-- Replay detection: a receiver keeps, for each lane, the pair of key and packet number of the last
-- frame that went up, and takes only frames above it (IEEE Std 802.11, 12.5.3.4.4).
use Rattle.std.specs.Prelude.{ℕ, Bool, true, List, [], ◌∷◌, Option, Some, None, slice_index_or, slice_set}
use Rattle.wl_elem.specs.declared.lane.Lane.{Lane}
use Rattle.wl_elem.specs.Lanes.{lane_index}
use Rattle.wl_elem.specs.Pairs.{pair_below}
use Rattle.wl_replay.specs.declared.replay.Pair.{Pair}

-- nothing went up on any lane
abbrev pub no_pairs : List (Option Pair)
no_pairs = None ∷ None ∷ None ∷ None ∷ None ∷ None ∷ None ∷ None ∷ None ∷ []

-- the last pair of the lane
abbrev pub last_of : List (Option Pair) → Lane → Option Pair
last_of pairs lane = slice_index_or pairs (lane_index lane) None

-- a pair is above the last one, the key first; above none each is
abbrev pub is_above : Option Pair → ℕ → ℕ → Bool
is_above None key pn = true
is_above (Some last) key pn = pair_below last.key last.pn key pn

-- the pair is the lane's last
abbrev pub with_last : List (Option Pair) → Lane → ℕ → ℕ → List (Option Pair)
with_last pairs lane key pn = slice_set pairs (lane_index lane) (Some (record { key = key; pn = pn }))
