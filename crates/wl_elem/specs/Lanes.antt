-- The nine lanes of an end: the data of TID 0 to 7, and management.
use Rattle.std.specs.Prelude.{ℕ, ◌<◌, ◌==◌, Bool, true, false}
use Rattle.wl_elem.specs.declared.lane.EndId.{EndId}
use Rattle.wl_elem.specs.declared.lane.EndId.TheVariants.{Ap, Sta}
use Rattle.wl_elem.specs.declared.lane.Lane.{Lane}
use Rattle.wl_elem.specs.declared.lane.Lane.TheVariants as lanes

abbrev pub lane_count : ℕ
lane_count = 9

-- a lane's place among the nine
abbrev pub lane_index : Lane → ℕ
lane_index (lanes.Tid tid) = tid
lane_index lanes.Management = 8

-- the TIDs of data are 0 to 7
abbrev pub IsLane : Lane → Type 0
IsLane (lanes.Tid tid) = tid < 8
IsLane lanes.Management = Unit {0}

-- the lane stands at this place among the nine
abbrev pub at_place : Lane → ℕ → Bool
at_place lane place = lane_index lane == place

abbrev pub same_lane : Lane → Lane → Bool
same_lane a b = lane_index a == lane_index b

abbrev pub peer_of : EndId → EndId
peer_of Ap = Sta
peer_of Sta = Ap

abbrev pub same_end : EndId → EndId → Bool
same_end Ap Ap = true
same_end Ap Sta = false
same_end Sta Ap = false
same_end Sta Sta = true
