-- For private contracts alone, but for `frame_count`: the parts of an end.
use Rattle.std.specs.Prelude.{◌≡◌, ℕ, ◌+◌, ◌^◌, ◌<◌, ◌≤◌, List, [], ◌∷◌, length, slice_index_or, slice_set}
use Rattle.std.specs.List.{AllByRecursion}
use Rattle.wl_elem.specs.declared.lane.Lane.{Lane}
use Rattle.wl_elem.specs.Lanes.{lane_index}
use Rattle.wl_window.specs.Reordering.{Store}
use Rattle.wl_history.specs.declared.arrival.Arrival.{Arrival}
use Rattle.wl_history.specs.declared.hand.Hand.{Hand}
use Rattle.wl_history.specs.EndState.{LaneState, no_lane}
use Rattle.wl_elem.specs.Element.{msdu_limit}

-- the hands of threads, and for how many there is memory
pub record Held : Type 0 where
  pub hands : List Hand
  pub room : ℕ

-- a window has at most so many numbers
abbrev pub window_limit : ℕ
window_limit = 256

abbrev pub IsShort : List ℕ → Type 0
IsShort body = length body ≤ msdu_limit

-- What holds of the parts of a lane. Each queued body has room for the mark that it was aired, and
-- nothing that went up waits between two calls.
pub record IsLaneKept (queue : List (List ℕ)) (store : Store Arrival) (waiting : List Arrival) (marks : ℕ) : Type 0 where
  pub short : AllByRecursion IsShort queue
  pub countable : length queue < 2 ^ 32
  pub room : store.room ≤ window_limit
  pub drained : waiting ≡ []
  pub markable : length queue ≤ marks

-- the lane among the nine
abbrev pub lane_of : List LaneState → Lane → LaneState
lane_of lanes lane = slice_index_or lanes (lane_index lane) no_lane

abbrev pub with_lane_of : List LaneState → Lane → LaneState → List LaneState
with_lane_of lanes lane new = slice_set lanes (lane_index lane) new

-- the frames aired on a link
abbrev pub frames_of : List (List (List ℕ)) → ℕ → List (List ℕ)
frames_of frames link = slice_index_or frames link []

-- how many frames there are on all links
abbrev pub frame_count : List (List (List ℕ)) → ℕ
frame_count [] = 0
frame_count (on_link ∷ frames) = length on_link + frame_count frames
