-- An end's state has what the words of its history say.
use Rattle.std.specs.Prelude.{◌≡◌, ℕ, ◌<◌, List, [], ◌∷◌, ◌++◌, slice_index_or, None}
use Rattle.wl_elem.specs.declared.lane.EndId.{EndId}
use Rattle.wl_elem.specs.Lanes.{lane_count}
use Rattle.wl_number.specs.declared.numbers.Numbers.{Numbers}
use Rattle.wl_frame.specs.Sealing.{Sealing}
use Rattle.wl_history.specs.declared.arrival.Arrival.{Arrival}
use Rattle.wl_history.specs.declared.setup.Setup.{Setup}
use Rattle.wl_history.specs.declared.start.Start.{Start}
use Rattle.wl_history.specs.declared.start.EndStart.{EndStart}
use Rattle.wl_history.specs.declared.step.Step.{Step}
use Rattle.wl_history.specs.Ends.{start_of}
use Rattle.wl_history.specs.Words.{queued, booked, send_key, setup_of, Receiving, receiving, last_pair, Airing, airings, airings_on, was_aired}
use Rattle.wl_history.specs.Hearing.{octets_of}
use Rattle.wl_history.specs.EndState.{LaneState, EndState, lane_at, frames_on, was_aired_at}

-- the positions of what was released, in order
abbrev pub positions_of : List Arrival → List ℕ
positions_of [] = []
positions_of (item ∷ before) = positions_of before ++ item.numbers.pos ∷ []

abbrev pub octets_all : Sealing → EndStart → EndId → List Airing → List (List ℕ)
octets_all text start e [] = []
octets_all text start e (airing ∷ airings) = octets_of text start e airing ∷ octets_all text start e airings

-- the lane at a place has these bodies queued, has received this, and knows what was aired
pub record LaneTells (l : ℕ) (lane : LaneState) (queue : List (List ℕ)) (got : Receiving) (aired : List Airing) : Type 0 where
  pub queue_is : lane.queue ≡ queue
  pub window : lane.window ≡ got.window
  pub released : lane.released ≡ positions_of got.released
  pub flags : (pos : ℕ) → was_aired_at lane.aired pos ≡ was_aired l pos aired

-- the end that started so has these bodies queued, these bookings, has aired and received this, sends under
-- this key, and has this set up; lanes are told by their places
pub record Tells (text : Sealing) (start : EndStart) (e : EndId) (s : EndState) (queue : ℕ → List (List ℕ)) (bookings : List (List Numbers)) (aired : List Airing) (got : ℕ → Receiving) (key : ℕ) (setup : Setup) : Type 0 where
  pub start_is : s.start ≡ start
  pub setup_is : s.setup ≡ setup
  pub key_is : s.numbers.key ≡ key
  pub lanes : (l : ℕ) → l < lane_count → LaneTells l (lane_at s l) (queue l) (got l) aired
  pub booked_are : s.booked ≡ bookings
  pub last : (l : ℕ) → l < lane_count → slice_index_or s.last l None ≡ last_pair (got l).released
  pub frames : (link : ℕ) → link < 15 → frames_on s link ≡ octets_all text start e (airings_on link aired)

-- The end's state has what the words say after these steps, for a sealer of this meaning.
abbrev pub EndStands : Sealing → Start → EndId → EndState → List Step → Type 0
EndStands text start e s steps =
    Tells text (start_of start e) e s (λ l. queued start e l steps) (booked e steps) (airings start e steps) (λ l. receiving start e l steps) (send_key (start_of start e) e steps) (setup_of start e steps)
