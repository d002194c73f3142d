-- What is called at an end, and what comes of it.
use Rattle.std.specs.Prelude.{ℕ, ◌<◌, List, [], ◌∷◌}
use Rattle.std.specs.List.{AllByRecursion}
use Rattle.wl_elem.specs.Links.{set_limit}
use Rattle.wl_map.specs.declared.change.MapAsk.{MapAsk}
use Rattle.wl_map.specs.Ends.{MapState, after_ask, after_on_ask, after_reply, torn_down, after_teardown, closed, with_links}

pub data Call : Type 0 where
  -- it asks for new mappings
  Asks : (ask : MapAsk) → Call
  -- it is asked by its peer
  IsAsked : (ask : MapAsk) → Call
  -- a reply of this token and status comes
  IsReplied : (token status : ℕ) → Call
  -- it tears its mappings down
  TearsDown : Call
  -- a teardown of its peer comes
  IsTornDown : Call
  -- it gives its ask up
  GivesUp : Call
  -- the links set up become these
  HasLinks : (links : ℕ) → Call

abbrev pub after : Call → MapState → MapState
after (Asks ask) s = after_ask s ask
after (IsAsked ask) s = after_on_ask s ask
after (IsReplied token status) s = after_reply s token status
after TearsDown s = torn_down s
after IsTornDown s = after_teardown s
after GivesUp s = closed s
after (HasLinks links) s = with_links s links

-- after these calls, the newest first
abbrev pub after_calls : MapState → List Call → MapState
after_calls s [] = s
after_calls s (call ∷ before) = after call (after_calls s before)

-- bitmaps of links are below 2^15
abbrev pub IsCall : Call → Type 0
IsCall (HasLinks links) = links < set_limit
IsCall other = Unit {0}

abbrev pub AreCalls : List Call → Type 0
AreCalls calls = AllByRecursion IsCall calls
