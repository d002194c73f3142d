-- What an end reports: of its state, and in the words of a history.
use Rattle.std.specs.Prelude.{◌≡◌, ℕ, zero, suc, ◌+◌, List, [], ◌∷◌, length}
use Rattle.wl_elem.specs.declared.lane.EndId.{EndId}
use Rattle.wl_elem.specs.declared.lane.EndId.TheVariants.{Ap, Sta}
use Rattle.wl_elem.specs.declared.lane.Direction.TheVariants.{Down, Up}
use Rattle.wl_number.specs.Bookings.{booking_count}
use Rattle.wl_map.specs.Ends.{agreed_sets}
use Rattle.wl_history.specs.declared.start.Start.{Start}
use Rattle.wl_history.specs.declared.step.Step.{Step}
use Rattle.wl_history.specs.EndState.{EndState, lane_at}
use Rattle.wl_history.specs.Ends.{start_of}
use Rattle.wl_history.specs.Stands.{positions_of}
use Rattle.wl_history.specs.Words as words
use Rattle.wl_end.specs.Parts.{frame_count}
use Rattle.wl_scene.specs.declared.totals.Totals.{Totals}
use Rattle.wl_scene.specs.Report.{report_text}

-- what stands at each of the nine lanes' places, in order
abbrev pub per_lane : {A : Type 0} → (ℕ → A) → List A
per_lane f = f 0 ∷ f 1 ∷ f 2 ∷ f 3 ∷ f 4 ∷ f 5 ∷ f 6 ∷ f 7 ∷ f 8 ∷ []

-- the sum of a function's values at the numbers below this one
abbrev pub sum_below : ℕ → (ℕ → ℕ) → ℕ
sum_below zero f = 0
sum_below (suc n) f = f 0 + sum_below n (λ k. f (suc k))

-- an end in this state reports this
pub record IsTotals (s : EndState) (t : Totals) : Type 0 where
  pub aired : t.aired ≡ frame_count s.frames
  pub booked : t.booked ≡ booking_count s.booked
  -- no EMLSR mode is in force
  pub emlsr : t.emlsr ≡ 0
  pub key : t.key ≡ s.numbers.key
  pub links : t.links ≡ s.setup.links
  -- the mappings in force
  pub dl : t.dl ≡ agreed_sets Down s.setup.maps
  pub ul : t.ul ≡ agreed_sets Up s.setup.maps
  pub newest : t.newest ≡ s.setup.keys
  pub queued : t.queued ≡ per_lane (λ l. length (lane_at s l).queue)
  pub released : t.released ≡ per_lane (λ l. (lane_at s l).released)

-- An end of a history reports this: the frames that it put on the links, its bookings, the key that it
-- sends under, the links set up, the mapping that it agreed on in each direction, the newest key that it
-- holds, and by lane how many bodies it queued and the positions of its peer's queues that it released.
pub record Reports (start : Start) (e : EndId) (steps : List Step) (t : Totals) : Type 0 where
  pub aired : t.aired ≡ sum_below 15 (λ link. length (words.airings_on link (words.airings start e steps)))
  pub booked : t.booked ≡ booking_count (words.booked e steps)
  -- no EMLSR mode is in force
  pub emlsr : t.emlsr ≡ 0
  pub key : t.key ≡ words.send_key (start_of start e) e steps
  pub links : t.links ≡ (words.setup_of start e steps).links
  pub dl : t.dl ≡ agreed_sets Down (words.setup_of start e steps).maps
  pub ul : t.ul ≡ agreed_sets Up (words.setup_of start e steps).maps
  pub newest : t.newest ≡ (words.setup_of start e steps).keys
  pub queued : t.queued ≡ per_lane (λ l. length (words.queued start e l steps))
  pub released : t.released ≡ per_lane (λ l. positions_of (words.receiving start e l steps).released)

-- the text of what both ends report after these steps
pub record IsReport (start : Start) (steps : List Step) (text : List ℕ) : Type 0 where
  pub ap : Totals
  pub sta : Totals
  pub ap_reports : Reports start Ap steps ap
  pub sta_reports : Reports start Sta steps sta
  pub text_is : text ≡ report_text ap sta (length steps)
