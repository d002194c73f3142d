-- For private contracts alone: a lane that is lent.
use Rattle.std.specs.Prelude.{List}
use Rattle.std.specs.Borrow.{Lends, MutBor, Fml}
use Rattle.wl_elem.specs.declared.lane.Lane.{Lane}
use Rattle.wl_history.specs.EndState.{LaneState}
use Rattle.wl_end.specs.contracts.lanes.Lanes.{the_row}
use Rattle.wl_end.specs.contracts.lane_parts.LaneParts.{the_row as lane_row}
use Rattle.wl_end.specs.Parts.{with_lane_of}

-- the lanes end with the lane as it is last behind the reference
abbrev pub LendsLane : MutBor (List LaneState) → Lane → MutBor LaneState → Fml
LendsLane lanes lane r = Lends the_row lane_row lanes r (with_lane_of lanes.now lane)
