-- For private contracts alone: what comes of what an end saw of octets of its peer.
use Rattle.std.specs.Prelude.{◌≡◌, ℕ}
use Rattle.wl_elem.specs.Lanes.{lane_index}
use Rattle.wl_number.specs.declared.numbers.Numbers.{Numbers}
use Rattle.wl_history.specs.declared.opened.Opened.{Opened}
use Rattle.wl_history.specs.declared.outcome.Outcome.{Outcome}
use Rattle.wl_history.specs.Ends.{receive_size}
use Rattle.wl_history.specs.EndState.{EndState, arrival_of, hear_answer, after_hear}
use Rattle.wl_end.specs.declared.peek.Peek.{Peek}
use Rattle.wl_end.specs.declared.peek.Peek.TheVariants as peeks
use Rattle.wl_end.specs.Peeking.{IsBookingOf}
use Rattle.wl_air.specs.declared.fault.StepFault.{StepFault}
use Rattle.wl_air.specs.declared.fault.StepFault.TheVariants as faults

-- the numbers of a booking at this position, of what was opened
abbrev pub numbers_of : Opened → ℕ → ℕ → Numbers
numbers_of four pn pos = record { pos = pos; key = four.key.number; pn = pn }

-- what is answered of what was seen, and the receiver after it
abbrev pub Seen : EndState → EndState → Peek → Outcome → EndState → Type 0
Seen s sender (peeks.Answered answer) o s' = (o ≡ answer) × (s' ≡ s)
Seen s sender (peeks.Opened four lane number pn) o s' =
    (pos : ℕ) × IsBookingOf sender lane pn four pos
    × (o ≡ hear_answer lane number (receive_size s.setup (lane_index lane)) (arrival_of sender lane (numbers_of four pn pos)) s)
    × (s' ≡ after_hear lane number (receive_size s.setup (lane_index lane)) (arrival_of sender lane (numbers_of four pn pos)) s)

-- it opened to what the sender has no booking of
abbrev pub NotBooked : EndState → Peek → Opened → Type 0
NotBooked sender (peeks.Answered answer) opened = ⊥
NotBooked sender (peeks.Opened four lane number pn) opened = (opened ≡ four) × ((pos : ℕ) → IsBookingOf sender lane pn four pos → ⊥)

-- why what was seen isn't taken
abbrev pub IsSeenFault : EndState → Peek → StepFault → Type 0
IsSeenFault sender peek (faults.Forged opened) = NotBooked sender peek opened
IsSeenFault sender peek faults.Memory = Unit {0}
