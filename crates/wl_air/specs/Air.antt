-- Two ends: what each may start with, and what they need of each other.
use Rattle.std.specs.Prelude.{Option, Some, None, ◌≡◌, ◌^◌, ◌<◌, ◌≤◌, length}
use Rattle.wl_elem.specs.declared.lane.EndId.{EndId}
use Rattle.wl_elem.specs.Lanes.{peer_of}
use Rattle.wl_history.specs.declared.command.Command.{Command}
use Rattle.wl_history.specs.declared.start.EndStart.{EndStart}
use Rattle.wl_history.specs.Ends.{mld_of}
use Rattle.wl_history.specs.EndState.{EndState}
use Rattle.wl_history.specs.AirState.{AirState, end_of, hearer}

-- what an end may start with
pub record CanStart (start : EndStart) : Type 0 where
  pub some_window : 1 ≤ start.window
  pub window_limit : start.window ≤ 256
  pub some_pn : 1 ≤ start.first_pn
  pub pn_limit : start.first_pn < 2 ^ 48

-- a receiver and its sender agree on their addresses and on the base of their keys
pub record AreJoined (s sender : EndState) : Type 0 where
  pub peer : sender.start.end ≡ peer_of s.start.end
  pub ap_same : sender.start.ap ≡ s.start.ap
  pub sta_same : sender.start.sta ≡ s.start.sta
  pub key_same : sender.start.key ≡ s.start.key
  pub six : length (mld_of sender.start sender.start.end) ≡ 6

abbrev pub KnowsIf : Option EndId → AirState → Type 0
KnowsIf None a = Unit {0}
KnowsIf (Some end) a = AreJoined (end_of a end) (end_of a (peer_of end))

-- an end that is told to hear its peer knows it; no other command asks for that
abbrev pub KnowsPeer : Command → AirState → Type 0
KnowsPeer command a = KnowsIf (hearer command) a
