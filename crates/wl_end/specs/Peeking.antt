-- What is seen of octets that are heard, before anything is kept of them; and the own booking that
-- something opened is of.
use Rattle.std.specs.Prelude.{◌≡◌, ℕ, ◌<◌, List, Result, Ok, Err}
use Rattle.wl_elem.specs.declared.fault.Refusal.{Refusal}
use Rattle.wl_elem.specs.declared.lane.Lane.{Lane}
use Rattle.wl_elem.specs.Lanes.{lane_index, IsLane}
use Rattle.wl_frame.specs.Frame.{FrameValue}
use Rattle.wl_frame.specs.Refusals.{ReadAs}
use Rattle.wl_frame.specs.Sealing.{Sealing, IsUnder}
use Rattle.wl_number.specs.Bookings.{BookedWith}
use Rattle.wl_history.specs.declared.opened.Opened.{Opened}
use Rattle.wl_history.specs.declared.outcome.Outcome.{Outcome}
use Rattle.wl_history.specs.declared.outcome.Outcome.TheVariants as outcomes
use Rattle.wl_history.specs.declared.start.EndStart.{EndStart}
use Rattle.wl_history.specs.Plain.{IsPlain}
use Rattle.wl_history.specs.Hearing.{Closed, Judged, Answered, ToOpen, judged, opened_under, sealed_under, text_of}
use Rattle.wl_history.specs.Legal.{IsBodyIn}
use Rattle.wl_history.specs.Words.{body_at}
use Rattle.wl_history.specs.EndState.{EndState, lane_at}
use Rattle.wl_end.specs.declared.peek.Payload.{Payload}
use Rattle.wl_end.specs.declared.peek.Peek.{Peek}
use Rattle.wl_end.specs.declared.peek.Peek.TheVariants as peeks

-- a payload to be opened, with its octets
abbrev pub closed_of : Payload → List ℕ → Closed
closed_of p octets = record { lane = p.lane; number = p.number; key = p.key; pn = p.pn; payload = octets }

-- what the tests before the opening said
abbrev pub verdict : Result Payload Outcome → List ℕ → Judged
verdict (Ok p) octets = ToOpen (closed_of p octets)
verdict (Err outcome) octets = Answered outcome

-- a body that opens to the payload
abbrev pub OpensTo : Sealing → EndStart → Closed → List ℕ → Type 0
OpensTo text start c body = text_of text (opened_under start start.end c body) ≡ c.payload

-- the payload was opened to this, or no body opens to it
pub record IsOpened (text : Sealing) (start : EndStart) (c : Closed) (four : Opened) (lane : Lane) (number pn : ℕ) : Type 0 where
  pub four_is : four ≡ opened_under start start.end c four.body
  pub opens : OpensTo text start c four.body
  pub under : IsUnder four.key four.nonce four.aad
  pub body_is : IsBodyIn c.payload four.body
  pub lane_is : lane ≡ c.lane
  pub number_is : number ≡ c.number
  pub pn_is : pn ≡ c.pn

pub record IsShut (text : Sealing) (start : EndStart) (c : Closed) (outcome : Outcome) : Type 0 where
  pub answer : outcome ≡ outcomes.NotOpened
  pub shut : (body : List ℕ) → OpensTo text start c body → ⊥

abbrev pub OpenedAs : Sealing → EndStart → Closed → Peek → Type 0
OpenedAs text start c (peeks.Opened four lane number pn) = IsOpened text start c four lane number pn
OpenedAs text start c (peeks.Answered outcome) = IsShut text start c outcome

-- what is answered of octets that were judged so
abbrev pub PeekedAs : Sealing → EndStart → Judged → Peek → Type 0
PeekedAs text start (Answered outcome) peek = peek ≡ peeks.Answered outcome
PeekedAs text start (ToOpen c) peek = OpenedAs text start c peek

-- octets that came over a link, at this end
pub record IsPeek (text : Sealing) (s : EndState) (link : ℕ) (octets : List ℕ) (peek : Peek) : Type 0 where
  pub reading : Result FrameValue Refusal
  pub read : ReadAs octets reading
  pub peeked : PeekedAs text s.start (judged s.start s.setup s.start.end link reading) peek

-- what is opened has a lane and a number of 12 bits, and what is answered carries no list
abbrev pub PeekFits : Peek → Type 0
PeekFits (peeks.Opened four lane number pn) = (number < 4096) × IsLane lane
PeekFits (peeks.Answered outcome) = IsPlain outcome

-- the own booking at this position of the lane is what was opened
pub record IsBookingOf (s : EndState) (lane : Lane) (pn : ℕ) (four : Opened) (pos : ℕ) : Type 0 where
  pub booked : BookedWith s.booked lane pos four.key.number pn
  pub sealed : sealed_under s.start s.start.end lane (record { pos = pos; key = four.key.number; pn = pn }) (body_at (lane_at s (lane_index lane)).queue pos) ≡ four
