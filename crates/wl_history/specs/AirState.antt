-- Two ends, what they acknowledged and asked each other; what each command makes of them, and where a history
-- leaves them.
use Rattle.std.specs.Prelude.{ℕ, List, [], ◌∷◌, Option, Some, None, option_map}
use Rattle.wl_elem.specs.declared.lane.EndId.{EndId}
use Rattle.wl_elem.specs.declared.lane.EndId.TheVariants.{Ap, Sta}
use Rattle.wl_elem.specs.Lanes.{peer_of}
use Rattle.wl_frame.specs.Sealing.{Sealing}
use Rattle.wl_history.specs.declared.ack.Ack.{Ack}
use Rattle.wl_history.specs.declared.ack.Bar.{Bar}
use Rattle.wl_history.specs.declared.command.Command.{Command}
use Rattle.wl_history.specs.declared.command.Command.TheVariants as commands
use Rattle.wl_history.specs.declared.outcome.Outcome.{Outcome}
use Rattle.wl_history.specs.declared.start.Start.{Start}
use Rattle.wl_history.specs.declared.step.Step.{Step}
use Rattle.wl_history.specs.Hands.{hand_of}
use Rattle.wl_history.specs.Words.{nth_of}
use Rattle.wl_history.specs.EndState.{EndState, started, frames_on, after_queue, after_reserve, after_book, after_put, after_again, after_taken, after_heard, after_bar_out, after_request, after_install, after_turn, with_made}
use Rattle.wl_history.specs.Answers.{booked_at, aired_octets, octets_again, acks_made, bars_made}
use Rattle.wl_history.specs.Hearing.{with_number, forged}
use Rattle.wl_history.specs.Machines.{switched, map_asked, map_torn, given}

pub record AirState : Type 0 where
  pub ap : EndState
  pub sta : EndState
  -- what each acknowledged, in order
  pub ap_acks : List Ack
  pub sta_acks : List Ack
  -- and its requests to move a window
  pub ap_bars : List Bar
  pub sta_bars : List Bar

abbrev pub end_of : AirState → EndId → EndState
end_of a Ap = a.ap
end_of a Sta = a.sta

abbrev pub acks_of : AirState → EndId → List Ack
acks_of a Ap = a.ap_acks
acks_of a Sta = a.sta_acks

abbrev pub with_end : EndId → EndState → AirState → AirState
with_end Ap s a = record a { ap = s }
with_end Sta s a = record a { sta = s }

abbrev pub with_acks : EndId → List Ack → AirState → AirState
with_acks Ap acks a = record a { ap_acks = acks }
with_acks Sta acks a = record a { sta_acks = acks }

abbrev pub bars_of : AirState → EndId → List Bar
bars_of a Ap = a.ap_bars
bars_of a Sta = a.sta_bars

abbrev pub with_bars : EndId → List Bar → AirState → AirState
with_bars Ap bars a = record a { ap_bars = bars }
with_bars Sta bars a = record a { sta_bars = bars }

-- the acknowledgement of the peer that an end is told to take: the one of this number, or the latest
abbrev pub ack_named : AirState → EndId → Option ℕ → Option Ack
ack_named a end nth = nth_of nth (acks_of a (peer_of end))

-- the request of the peer likewise
abbrev pub bar_named : AirState → EndId → Option ℕ → Option Bar
bar_named a end nth = nth_of nth (bars_of a (peer_of end))

-- the frame of the peer on a link that an end is told to hear
abbrev pub octets_named : AirState → EndId → ℕ → Option ℕ → Option (List ℕ)
octets_named a end link nth = nth_of nth (frames_on (end_of a (peer_of end)) link)

-- The octets that a command puts before the end that hears: a frame of the peer, the same with another
-- sequence number, a frame that was sealed so, or any; none where the peer sent no such frame.
abbrev pub octets_heard : Sealing → Command → AirState → Option (List ℕ)
octets_heard text (commands.Deliver end link nth) a = octets_named a end link nth
octets_heard text (commands.Alter end link nth number) a = option_map (with_number number) (octets_named a end link nth)
octets_heard text (commands.Forge end link lane key pn number body) a = Some (forged text (end_of a (peer_of end)).start link lane (record { pos = number; key = key; pn = pn }) body)
octets_heard text (commands.Inject end link octets) a = Some octets
octets_heard text other a = None

-- the end that hears a frame by a command, where it hears one
abbrev pub hearer : Command → Option EndId
hearer (commands.Deliver end link nth) = Some end
hearer (commands.Alter end link nth number) = Some end
hearer (commands.Forge end link lane key pn number body) = Some end
hearer (commands.Inject end link octets) = Some end
hearer other = None

-- two ends that did nothing yet
abbrev pub begun : Start → AirState
begun start = record { ap = started start.ap; sta = started start.sta; ap_acks = []; sta_acks = []; ap_bars = []; sta_bars = [] }

-- what a command of a thread leaves, by its answer
abbrev pub after : Sealing → ℕ → Command → Outcome → AirState → AirState
after text thread (commands.Queue end tid body) outcome a = with_end end (after_queue tid body (end_of a end)) a
after text thread (commands.Reserve end lane) outcome a = with_end end (after_reserve thread lane outcome (end_of a end)) a
after text thread (commands.Book end) outcome a = with_end end (after_book thread outcome (end_of a end)) a
after text thread (commands.Put end link) outcome a = with_end end (after_put thread link (aired_octets text link (hand_of (end_of a end).hands thread) (end_of a end)) outcome (end_of a end)) a
after text thread (commands.Deliver end link nth) outcome a = with_end end (after_heard (end_of a (peer_of end)) outcome (end_of a end)) a
after text thread (commands.Again end link lane pos) outcome a = with_end end (after_again link lane (octets_again text link lane (booked_at (end_of a end) lane pos) (end_of a end)) outcome (end_of a end)) a
after text thread (commands.Alter end link nth number) outcome a = with_end end (after_heard (end_of a (peer_of end)) outcome (end_of a end)) a
after text thread (commands.Forge end link lane key pn number body) outcome a = with_end end (after_heard (end_of a (peer_of end)) outcome (end_of a end)) a
after text thread (commands.Inject end link octets) outcome a = with_end end (after_heard (end_of a (peer_of end)) outcome (end_of a end)) a
after text thread (commands.BarOut end lane to) outcome a = with_bars end (bars_made lane outcome (bars_of a end)) (with_end end (after_bar_out lane to (end_of a end)) a)
after text thread (commands.BarIn end nth) outcome a = with_end end (after_request (bar_named a end nth) (end_of a end)) a
after text thread (commands.AckOut end lane) outcome a = with_acks end (acks_made lane outcome (acks_of a end)) a
after text thread (commands.AckIn end nth) outcome a = with_end end (after_taken (ack_named a end nth) (end_of a end)) a
after text thread (commands.Install end) outcome a = with_end end (after_install outcome (end_of a end)) a
after text thread (commands.Turn end) outcome a = with_end end (after_turn outcome (end_of a end)) a
after text thread (commands.Power end link on) outcome a = with_end end (with_made (switched link on (end_of a end).setup) (end_of a end)) a
after text thread (commands.MapAsk end entries) outcome a = with_end end (with_made (map_asked entries outcome (end_of a end).setup) (end_of a end)) a
after text thread (commands.MapTeardown end) outcome a = with_end end (with_made (map_torn outcome (end_of a end).setup) (end_of a end)) a
after text thread (commands.GiveUp end what) outcome a = with_end end (with_made (given what outcome (end_of a end).setup) (end_of a end)) a

-- where a history leaves two ends that started so
unfoldable pub state_of : Sealing → Start → List Step → AirState
state_of text start [] = begun start
state_of text start (step ∷ before) = after text step.thread step.command step.outcome (state_of text start before)
