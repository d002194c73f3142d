-- For private contracts alone: what comes of a body that a lane's window takes or refuses, and of a request to
-- move it.
use Rattle.std.specs.Prelude.{ℕ, ◌≤◌, List, [], ◌∷◌, ◌++◌, length, Option, Some, None, slice_set}
use Rattle.wl_elem.specs.declared.lane.Lane.{Lane}
use Rattle.wl_elem.specs.Lanes.{lane_index}
use Rattle.wl_replay.specs.declared.replay.Pair.{Pair}
use Rattle.wl_replay.specs.Replay.{last_of}
use Rattle.wl_window.specs.Reordering.{Arrived, Moved, Old, Doubled, Stored}
use Rattle.wl_history.specs.declared.arrival.Arrival.{Arrival}
use Rattle.wl_history.specs.EndState.{LaneState, let_up}
use Rattle.wl_end.specs.declared.heard.Heard.{Heard}
use Rattle.wl_end.specs.declared.heard.Heard.TheVariants as heard

-- what is told of it, where this was the lane's last pair
abbrev pub heard_of : Option Pair → Arrived Arrival → Heard
heard_of last Old = heard.Old
heard_of last Doubled = heard.Doubled
heard_of last (Stored moved) = heard.Stored (let_up last moved.up).positions

-- at most so many positions are released
abbrev pub HeardFits : ℕ → Heard → Type 0
HeardFits room (heard.Stored up) = length up ≤ room
HeardFits room other = Unit {0}

-- what it leaves of the lane
abbrev pub lane_moved : Option Pair → Moved Arrival → LaneState → LaneState
lane_moved last moved lane = record lane { window = moved.window; released = lane.released ++ (let_up last moved.up).positions }

abbrev pub lane_after : Option Pair → Arrived Arrival → LaneState → LaneState
lane_after last (Stored moved) lane = lane_moved last moved lane
lane_after last other lane = lane

-- with a reply in its queue, where there is one
abbrev pub replied : Option (List ℕ) → LaneState → LaneState
replied None lane = lane
replied (Some body) lane = record lane { queue = lane.queue ++ body ∷ [] }

-- where it is stored, a reply is queued
abbrev pub lane_heard : Option Pair → Option (List ℕ) → Arrived Arrival → LaneState → LaneState
lane_heard last reply (Stored moved) lane = replied reply (lane_moved last moved lane)
lane_heard last reply other lane = lane

-- and of the last pairs
abbrev pub pairs_moved : Lane → Moved Arrival → List (Option Pair) → List (Option Pair)
pairs_moved lane moved pairs = slice_set pairs (lane_index lane) (let_up (last_of pairs lane) moved.up).last

abbrev pub pairs_after : Lane → Arrived Arrival → List (Option Pair) → List (Option Pair)
pairs_after lane (Stored moved) pairs = pairs_moved lane moved pairs
pairs_after lane other pairs = pairs

-- the same of a request
abbrev pub up_of : Option Pair → Option (Moved Arrival) → Option (List ℕ)
up_of last None = None
up_of last (Some moved) = Some (let_up last moved.up).positions

abbrev pub lane_passed : Option Pair → Option (Moved Arrival) → LaneState → LaneState
lane_passed last None lane = lane
lane_passed last (Some moved) lane = lane_moved last moved lane

abbrev pub pairs_passed : Lane → Option (Moved Arrival) → List (Option Pair) → List (Option Pair)
pairs_passed lane None pairs = pairs
pairs_passed lane (Some moved) pairs = pairs_moved lane moved pairs
