-- Safe histories.
use Rattle.std.specs.Prelude.{◌≡◌, ℕ, ◌<◌, List, [], ◌∷◌, length, Option, Some, None, Result}
use Rattle.std.specs.List.{AllByRecursion, Contains}
use Rattle.wl_elem.specs.declared.fault.Refusal.{Refusal}
use Rattle.wl_elem.specs.declared.lane.EndId.{EndId}
use Rattle.wl_elem.specs.declared.lane.Lane.{Lane}
use Rattle.wl_elem.specs.Lanes.{peer_of, lane_index}
use Rattle.wl_frame.specs.Sealing.{Sealing}
use Rattle.wl_frame.specs.Frame.{FrameValue}
use Rattle.wl_frame.specs.Refusals.{ReadAs}
use Rattle.wl_number.specs.declared.numbers.Numbers.{Numbers}
use Rattle.wl_number.specs.OrderRule.{OrderRule, list_of}
use Rattle.wl_replay.specs.Keys.{Holds}
use Rattle.wl_history.specs.declared.command.Command.{Command}
use Rattle.wl_history.specs.declared.command.Command.TheVariants as commands
use Rattle.wl_history.specs.declared.outcome.Outcome.{Outcome}
use Rattle.wl_history.specs.declared.outcome.Outcome.TheVariants as outcomes
use Rattle.wl_history.specs.declared.arrival.Arrival.{Arrival}
use Rattle.wl_history.specs.declared.setup.Setup.{Setup}
use Rattle.wl_history.specs.declared.start.EndStart.{EndStart}
use Rattle.wl_history.specs.declared.start.Start.{Start}
use Rattle.wl_history.specs.declared.step.Step.{Step}
use Rattle.wl_history.specs.Ends.{start_of, IsAllowed}
use Rattle.wl_history.specs.Words.{setup_of, queued, body_at, booked, Airing, airings, receiving}
use Rattle.wl_history.specs.Hearing.{Closed, ToOpen, opened_under, sealed_under, text_of}
use Rattle.wl_history.specs.EndState.{EndState, lane_at}
use Rattle.wl_history.specs.AirState.{AirState, end_of, octets_heard, state_of}
use Rattle.wl_history.specs.Legal.{judged_at}

-- Order: of what a lane released, the latest first, each has a higher position than those before it.
abbrev pub InOrder : List Arrival → Type 0
InOrder [] = Unit {0}
InOrder (item ∷ before) = AllByRecursion (λ other. other.numbers.pos < item.numbers.pos) before × InOrder before

-- the body is the one queued at the position
pub record IsQueued (queue : List (List ℕ)) (pos : ℕ) (body : List ℕ) : Type 0 where
  pub within : pos < length queue
  pub same : body ≡ body_at queue pos

pub record OrderKept (start : Start) (e : EndId) (l : ℕ) (steps : List Step) : Type 0 where
  pub in_order : InOrder (receiving start e l steps).released
  pub queued_there : AllByRecursion (λ item. IsQueued (queued start (peer_of e) l steps) item.numbers.pos item.body) (receiving start e l steps).released

-- Number: the text that an aired frame carries
abbrev pub text_aired : Sealing → EndStart → EndId → Airing → List ℕ
text_aired text start sender a = text_of text (sealed_under start sender a.lane a.numbers a.body)

-- two frames aired under one key and packet number carry one text of one booking
pub record IsSame (text : Sealing) (start : EndStart) (sender : EndId) (a b : Airing) : Type 0 where
  pub lane : a.lane ≡ b.lane
  pub numbers : a.numbers ≡ b.numbers
  pub text_alike : text_aired text start sender a ≡ text_aired text start sender b

pub record NumbersKept (text : Sealing) (start : Start) (e : EndId) (steps : List Step) : Type 0 where
  -- no two bookings share key and packet number
  pub rule : OrderRule (booked e steps)
  pub booked_queued : (lane : Lane) (n : Numbers) → Contains (list_of (booked e steps) lane) n → n.pos < length (queued start e (lane_index lane) steps)
  pub aired_booked : (a : Airing) → Contains (airings start e steps) a → Contains (list_of (booked e steps) a.lane) a.numbers
  pub one_text : (a b : Airing) → Contains (airings start e steps) a → Contains (airings start e steps) b
      → a.numbers.key ≡ b.numbers.key → a.numbers.pn ≡ b.numbers.pn → IsSame text (start_of start e) e a b

-- Link: a frame goes only to a link that its sender has set up, where its radio is on, and to which its own agreed
-- mapping maps the lane. The peer's mapping may be another one at the time.
abbrev pub PutAllowed : EndId → Setup → ℕ → Outcome → Type 0
PutAllowed e setup link (outcomes.Put lane n retry) = IsAllowed e setup lane link
PutAllowed e setup link other = Unit {0}

abbrev pub AgainAllowed : EndId → Setup → ℕ → Lane → Outcome → Type 0
AgainAllowed e setup link lane (outcomes.PutAgain n retry) = IsAllowed e setup lane link
AgainAllowed e setup link lane other = Unit {0}

abbrev pub StepAllowed : Start → List Step → Command → Outcome → Type 0
StepAllowed start before (commands.Put end link) outcome = PutAllowed end (setup_of start end before) link outcome
StepAllowed start before (commands.Again end link lane pos) outcome = AgainAllowed end (setup_of start end before) link lane outcome
StepAllowed start before other outcome = Unit {0}

abbrev pub LinksKept : Start → List Step → Type 0
LinksKept start [] = Unit {0}
LinksKept start (step ∷ before) = LinksKept start before × StepAllowed start before step.command step.outcome

-- Key: a body is stored only from a frame that opened under a key that the receiver held, to the body
-- of a booking of its sender
pub record OpenedUnder (text : Sealing) (s sender : EndState) (link : ℕ) (lane : Lane) (n : Numbers) (octets : List ℕ) : Type 0 where
  pub reading : Result FrameValue Refusal
  pub read : ReadAs octets reading
  pub closed : Closed
  pub to_open : judged_at s link reading ≡ ToOpen closed
  pub lane_same : closed.lane ≡ lane
  pub key_held : Holds s.setup.keys n.key
  pub of_sender : Contains (list_of sender.booked lane) n
  pub opens : text_of text (opened_under s.start s.start.end closed (body_at (lane_at sender (lane_index lane)).queue n.pos)) ≡ closed.payload

abbrev pub FrameOpened : Sealing → EndState → EndState → ℕ → Lane → Numbers → Option (List ℕ) → Type 0
FrameOpened text s sender link lane n None = ⊥
FrameOpened text s sender link lane n (Some octets) = OpenedUnder text s sender link lane n octets

abbrev pub HeardOpened : Sealing → EndState → EndState → ℕ → Option (List ℕ) → Outcome → Type 0
HeardOpened text s sender link octets (outcomes.Stored lane number n up) = FrameOpened text s sender link lane n octets
HeardOpened text s sender link octets other = Unit {0}

abbrev pub StepOpened : Sealing → AirState → Command → Outcome → Type 0
StepOpened text a (commands.Deliver end link nth) outcome = HeardOpened text (end_of a end) (end_of a (peer_of end)) link (octets_heard text (commands.Deliver end link nth) a) outcome
StepOpened text a (commands.Alter end link nth number) outcome = HeardOpened text (end_of a end) (end_of a (peer_of end)) link (octets_heard text (commands.Alter end link nth number) a) outcome
StepOpened text a (commands.Forge end link lane key pn number body) outcome = HeardOpened text (end_of a end) (end_of a (peer_of end)) link (octets_heard text (commands.Forge end link lane key pn number body) a) outcome
StepOpened text a (commands.Inject end link octets) outcome = HeardOpened text (end_of a end) (end_of a (peer_of end)) link (octets_heard text (commands.Inject end link octets) a) outcome
StepOpened text a other outcome = Unit {0}

-- by the state before each step
abbrev pub KeysKept : Sealing → Start → List Step → Type 0
KeysKept text start [] = Unit {0}
KeysKept text start (step ∷ before) = KeysKept text start before × StepOpened text (state_of text start before) step.command step.outcome

-- All four, at both ends.
pub record Safe (text : Sealing) (start : Start) (steps : List Step) : Type 0 where
  pub order : (e : EndId) (lane : Lane) → OrderKept start e (lane_index lane) steps
  pub numbers : (e : EndId) → NumbersKept text start e steps
  pub links : LinksKept start steps
  pub keys : KeysKept text start steps
