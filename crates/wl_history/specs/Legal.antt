-- Legal histories: each step is answered as the state before it says, and none is of a frame that
-- opens though its sender never booked it.
use Rattle.std.specs.Prelude.{◌≡◌, ◌≢◌, ℕ, ◌<◌, ◌≤◌, ◌^◌, true, List, [], ◌∷◌, length, Option, Some, None, IfSome, Result}
use Rattle.wl_elem.specs.declared.fault.Refusal.{Refusal}
use Rattle.wl_elem.specs.declared.lane.Lane.{Lane}
use Rattle.wl_elem.specs.Lanes.{peer_of, lane_index, IsLane}
use Rattle.wl_frame.specs.Frame.{FrameValue}
use Rattle.wl_frame.specs.Refusals.{ReadAs}
use Rattle.wl_frame.specs.Sealing.{Sealing, IsOctets}
use Rattle.std.specs.List.{Contains}
use Rattle.wl_number.specs.declared.numbers.Numbers.{Numbers}
use Rattle.wl_number.specs.OrderRule.{list_of}
use Rattle.wl_history.specs.declared.command.Command.{Command}
use Rattle.wl_history.specs.declared.command.Command.TheVariants as commands
use Rattle.wl_history.specs.declared.outcome.Outcome.{Outcome}
use Rattle.wl_history.specs.declared.outcome.Outcome.TheVariants as outcomes
use Rattle.wl_history.specs.declared.opened.Opened.{Opened}
use Rattle.wl_history.specs.declared.start.Start.{Start}
use Rattle.wl_history.specs.declared.step.Step.{Step}
use Rattle.wl_history.specs.Ends.{IsStart, start_of, is_link, send_size, receive_size}
use Rattle.wl_history.specs.Hands.{hand_of}
use Rattle.wl_history.specs.Words.{body_at}
use Rattle.wl_history.specs.Answers.{booked_at, reserve_answer, book_answer, put_of, again_of, ack_out_answer, ack_answer, bar_out_answer, bar_answer, install_answer, turn_answer}
use Rattle.wl_history.specs.Hearing.{Closed, Judged, Answered, ToOpen, judged, opened_under, sealed_under, text_of, booking_of}
use Rattle.wl_history.specs.EndState.{EndState, lane_at, arrival_of, hear_answer}
use Rattle.wl_history.specs.AirState.{AirState, end_of, octets_heard, ack_named, bar_named, state_of}
use Rattle.wl_history.specs.Machines.{map_ask_answer, teardown_answer, give_up_answer, AreEntries}
use Rattle.wl_elem.specs.Element.{msdu_limit}

-- ---- hearing: `s` hears octets of `sender`

-- a payload, where its sender has the booking or not
abbrev pub opened_answer : EndState → EndState → Closed → Option Numbers → Outcome
opened_answer s sender c None = outcomes.NotOpened
opened_answer s sender c (Some n) = hear_answer c.lane c.number (receive_size s.setup (lane_index c.lane)) (arrival_of sender c.lane n) s

-- the sender's booking that a payload is of, found by its text
abbrev pub booking_found : Sealing → EndState → EndState → Closed → Option Numbers
booking_found text s sender c = booking_of text s.start s.start.end c (lane_at sender (lane_index c.lane)).queue (list_of sender.booked c.lane)

abbrev pub judged_answer : Sealing → EndState → EndState → Judged → Outcome
judged_answer text s sender (Answered outcome) = outcome
judged_answer text s sender (ToOpen c) = opened_answer s sender c (booking_found text s sender c)

-- what the tests before the opening leave of octets that were read so
abbrev pub judged_at : EndState → ℕ → Result FrameValue Refusal → Judged
judged_at s link reading = judged s.start s.setup s.start.end link reading

-- The answer to octets heard on a link: they are read as a frame, judged, opened and stored.
abbrev pub HeardAs : Sealing → EndState → EndState → ℕ → List ℕ → Outcome → Type 0
HeardAs text s sender link octets outcome = (reading : Result FrameValue Refusal) × ReadAs octets reading × (outcome ≡ judged_answer text s sender (judged_at s link reading))

-- a frame that isn't there is answered so
abbrev pub HeardIf : Sealing → EndState → EndState → ℕ → Option (List ℕ) → Outcome → Type 0
HeardIf text s sender link None outcome = outcome ≡ outcomes.NotThere
HeardIf text s sender link (Some octets) outcome = HeardAs text s sender link octets outcome

-- ---- answers

-- The answer to a command of a thread in a state.
abbrev pub IsAnswer : Sealing → ℕ → Command → AirState → Outcome → Type 0
IsAnswer text thread (commands.Queue end tid body) a outcome = outcome ≡ outcomes.Queued (length (lane_at (end_of a end) tid).queue)
IsAnswer text thread (commands.Reserve end lane) a outcome =
    outcome ≡ reserve_answer (hand_of (end_of a end).hands thread) (length (lane_at (end_of a end) (lane_index lane)).queue) (lane_at (end_of a end) (lane_index lane)).sending (send_size (end_of a end).setup (lane_index lane))
IsAnswer text thread (commands.Book end) a outcome = outcome ≡ book_answer (hand_of (end_of a end).hands thread) (end_of a end).numbers
IsAnswer text thread (commands.Put end link) a outcome = outcome ≡ put_of link (hand_of (end_of a end).hands thread) (end_of a end)
IsAnswer text thread (commands.Again end link lane pos) a outcome = outcome ≡ again_of link lane (booked_at (end_of a end) lane pos) (end_of a end)
IsAnswer text thread (commands.Deliver end link nth) a outcome = HeardIf text (end_of a end) (end_of a (peer_of end)) link (octets_heard text (commands.Deliver end link nth) a) outcome
IsAnswer text thread (commands.Alter end link nth number) a outcome = HeardIf text (end_of a end) (end_of a (peer_of end)) link (octets_heard text (commands.Alter end link nth number) a) outcome
IsAnswer text thread (commands.Forge end link lane key pn number body) a outcome = HeardIf text (end_of a end) (end_of a (peer_of end)) link (octets_heard text (commands.Forge end link lane key pn number body) a) outcome
IsAnswer text thread (commands.Inject end link octets) a outcome = HeardIf text (end_of a end) (end_of a (peer_of end)) link (octets_heard text (commands.Inject end link octets) a) outcome
IsAnswer text thread (commands.AckOut end lane) a outcome = outcome ≡ ack_out_answer (lane_at (end_of a end) (lane_index lane)).window
IsAnswer text thread (commands.AckIn end nth) a outcome = outcome ≡ ack_answer (ack_named a end nth) (end_of a end)
IsAnswer text thread (commands.BarOut end lane to) a outcome = outcome ≡ bar_out_answer lane to (end_of a end)
IsAnswer text thread (commands.BarIn end nth) a outcome = outcome ≡ bar_answer (bar_named a end nth) (end_of a end)
IsAnswer text thread (commands.Install end) a outcome = outcome ≡ install_answer (end_of a end).setup.keys
IsAnswer text thread (commands.Turn end) a outcome = outcome ≡ turn_answer (end_of a end).numbers
IsAnswer text thread (commands.Power end link on) a outcome = outcome ≡ outcomes.Set
IsAnswer text thread (commands.MapAsk end entries) a outcome = outcome ≡ map_ask_answer entries (end_of a end).setup
IsAnswer text thread (commands.MapTeardown end) a outcome = outcome ≡ teardown_answer (end_of a end).setup
IsAnswer text thread (commands.GiveUp end what) a outcome = outcome ≡ give_up_answer what (end_of a end).setup

-- ---- forgeries

-- No booking of the sender has this key, nonce, AAD and body.
abbrev pub IsUnbooked : EndState → Opened → Type 0
IsUnbooked sender opened =
    (lane : Lane) (n : Numbers) → IsLane lane → Contains (list_of sender.booked lane) n → sealed_under sender.start sender.start.end lane n (body_at (lane_at sender (lane_index lane)).queue n.pos) ≢ opened

-- what a payload may open to: octets, and no more of them than it has itself
pub record IsBodyIn (payload body : List ℕ) : Type 0 where
  pub octets : IsOctets body
  pub shorter : length body ≤ length payload

-- a payload opens to what its sender never booked
abbrev pub ForgedAs : Sealing → EndState → EndState → Judged → Opened → Type 0
ForgedAs text s sender (Answered outcome) opened = ⊥
ForgedAs text s sender (ToOpen c) opened =
    (opened ≡ opened_under s.start s.start.end c opened.body) × (text_of text opened ≡ c.payload) × IsBodyIn c.payload opened.body × IsUnbooked sender opened

abbrev pub ForgedIf : Sealing → EndState → EndState → ℕ → Option (List ℕ) → Opened → Type 0
ForgedIf text s sender link None opened = ⊥
ForgedIf text s sender link (Some octets) opened = (reading : Result FrameValue Refusal) × ReadAs octets reading × ForgedAs text s sender (judged_at s link reading) opened

-- The command hears a frame that opens though its sender never booked it.
abbrev pub Forges : Sealing → Command → AirState → Opened → Type 0
Forges text (commands.Deliver end link nth) a opened = ForgedIf text (end_of a end) (end_of a (peer_of end)) link (octets_heard text (commands.Deliver end link nth) a) opened
Forges text (commands.Alter end link nth number) a opened = ForgedIf text (end_of a end) (end_of a (peer_of end)) link (octets_heard text (commands.Alter end link nth number) a) opened
Forges text (commands.Forge end link lane key pn number body) a opened = ForgedIf text (end_of a end) (end_of a (peer_of end)) link (octets_heard text (commands.Forge end link lane key pn number body) a) opened
Forges text (commands.Inject end link octets) a opened = ForgedIf text (end_of a end) (end_of a (peer_of end)) link (octets_heard text (commands.Inject end link octets) a) opened
Forges text other a opened = ⊥

-- ---- histories

-- a frame that somebody seals has numbers and a body as frames have them
pub record IsSealable (pn number : ℕ) (body : List ℕ) : Type 0 where
  pub some_pn : 1 ≤ pn
  pub pn_limit : pn < 2 ^ 48
  pub number_limit : number < 4096
  pub some_body : 1 ≤ length body
  pub body_limit : length body ≤ msdu_limit

-- octets that are put before an end aren't too many
abbrev pub octets_limit : ℕ
octets_limit = 4096

-- the members of a command are those of a scenario with this start
abbrev pub Fits : Start → Command → Type 0
Fits start (commands.Queue end tid body) = (tid < 8) × (1 ≤ length body) × (length body ≤ msdu_limit)
Fits start (commands.Reserve end lane) = IsLane lane
Fits start (commands.Put end link) = is_link (start_of start end) link ≡ true
Fits start (commands.Deliver end link nth) = is_link (start_of start end) link ≡ true
Fits start (commands.Again end link lane pos) = (is_link (start_of start end) link ≡ true) × IsLane lane
Fits start (commands.Alter end link nth number) = (is_link (start_of start end) link ≡ true) × (number < 4096)
Fits start (commands.Forge end link lane key pn number body) = (is_link (start_of start end) link ≡ true) × IsLane lane × IsSealable pn number body
Fits start (commands.AckOut end lane) = IsLane lane
Fits start (commands.BarOut end lane to) = IsLane lane
Fits start (commands.Inject end link octets) = (is_link (start_of start end) link ≡ true) × (length octets ≤ octets_limit)
Fits start (commands.Power end link on) = is_link (start_of start end) link ≡ true
Fits start (commands.MapAsk end entries) = length entries ≤ 2
Fits start other = Unit {0}

-- a number that a command may name: of 32 bits
abbrev pub InWord : Option ℕ → Type 0
InWord nth = IfSome nth (λ n. n < 2 ^ 32)

-- the links and numbers that a command names are in the ranges of their types
abbrev pub InRanges : Command → Type 0
InRanges (commands.Put end link) = link < 15
InRanges (commands.Again end link lane pos) = (link < 15) × (pos < 2 ^ 32)
InRanges (commands.Deliver end link nth) = (link < 15) × InWord nth
InRanges (commands.Alter end link nth number) = (link < 15) × InWord nth
InRanges (commands.Forge end link lane key pn number body) = (link < 15) × (key < 2 ^ 16)
InRanges (commands.Inject end link octets) = link < 15
InRanges (commands.Power end link on) = link < 15
InRanges (commands.MapAsk end entries) = AreEntries entries
InRanges (commands.AckIn end nth) = InWord nth
InRanges (commands.BarOut end lane to) = to < 2 ^ 32
InRanges (commands.BarIn end nth) = InWord nth
InRanges other = Unit {0}

-- A step in a state.
pub record IsStep (text : Sealing) (start : Start) (a : AirState) (step : Step) : Type 0 where
  pub thread : step.thread < 2 ^ 16
  pub fits : Fits start step.command
  pub ranges : InRanges step.command
  pub answer : IsAnswer text step.thread step.command a step.outcome
  pub unforged : (opened : Opened) → ¬ Forges text step.command a opened

-- a history has at most so many steps
abbrev pub step_limit : ℕ
step_limit = 1048576

-- The start is one that a world takes, each step is one in the state that those before it leave, and they
-- aren't too many.
abbrev pub Legal : Sealing → Start → List Step → Type 0
Legal text start [] = IsStart start
Legal text start (step ∷ before) = Legal text start before × IsStep text start (state_of text start before) step × (length before < step_limit)
