-- A world: two ends, what they acknowledged, and the steps made.
use Rattle.std.specs.Prelude.{◌≡◌, ℕ, ◌-◌, ◌*◌, ◌<◌, ◌≤◌, ◌^◌, List, length}
use Rattle.wl_elem.specs.declared.lane.EndId.{EndId}
use Rattle.wl_frame.specs.Sealing.{Sealing}
use Rattle.wl_number.specs.Bookings.{booking_count}
use Rattle.wl_window.specs.Reordering.{IsNear}
use Rattle.wl_history.specs.declared.start.Start.{Start}
use Rattle.wl_history.specs.declared.step.Step.{Step}
use Rattle.wl_history.specs.Ends.{IsSetup, IsStart, start_of}
use Rattle.wl_history.specs.Legal.{Legal, step_limit}
use Rattle.wl_history.specs.EndState.{EndState, lane_at}
use Rattle.wl_history.specs.AirState.{AirState, end_of as air_end, state_of}
use Rattle.wl_end.specs.Parts.{frame_count}

pub record WorldState : Type 0 where
  pub start : Start
  pub air : AirState
  -- the latest first
  pub steps : List Step

abbrev pub world_of : Start → AirState → List Step → WorldState
world_of start a steps = record { start = start; air = a; steps = steps }

abbrev pub end_of : WorldState → EndId → EndState
end_of w e = air_end w.air e

-- The world stands for a sealer of this meaning: its history is legal, and its ends are where the
-- history leaves them.
pub record Stands (text : Sealing) (w : WorldState) : Type 0 where
  pub legal : Legal text w.start w.steps
  pub air_is : w.air ≡ state_of text w.start w.steps

-- ---- what holds of each world, whichever sealers its steps were made with

-- An end after so many steps: each queues at most one body, books one position, airs one frame and
-- moves a window by at most 2,048.
pub record IsBounded (steps : ℕ) (s : EndState) : Type 0 where
  pub queues : (l : ℕ) → length (lane_at s l).queue ≤ steps
  pub windows : (l : ℕ) → (lane_at s l).window.start ≤ 2048 * steps
  pub near : (l : ℕ) → IsNear (lane_at s l).window
  pub booked : booking_count s.booked ≤ steps
  pub aired : frame_count s.frames ≤ steps
  -- and its windows keep to the sizes that they may have
  pub sized : IsSetup s.setup

pub record IsWorld (start : Start) (a : AirState) (steps : ℕ) : Type 0 where
  pub is_start : IsStart start
  pub starts : (e : EndId) → (air_end a e).start ≡ start_of start e
  pub bounded : (e : EndId) → IsBounded steps (air_end a e)
  pub few : steps ≤ step_limit

-- an end that can go on for a step
pub record IsRoomy (s : EndState) : Type 0 where
  pub queues : (l : ℕ) → length (lane_at s l).queue < 2 ^ 32 - 8192
  pub windows : (l : ℕ) → (lane_at s l).window.start < 2 ^ 32 - 8192
