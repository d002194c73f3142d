-- For private contracts alone: what a message of the peer makes of the mappings, and the reply to it.
use Rattle.std.specs.Prelude.{ℕ, List, Option, Some, None, option_map}
use Rattle.wl_elem.specs.declared.lane.Lane.{Lane}
use Rattle.wl_elem.specs.declared.lane.Lane.TheVariants.{Tid, Management}
use Rattle.wl_map.specs.Ends.{MapState, status_of, after_on_ask, after_reply, after_teardown}
use Rattle.wl_message.specs.declared.message.Message.{Message}
use Rattle.wl_message.specs.declared.message.Message.TheVariants.{MapAsk, MapReply, MapTeardown}
use Rattle.wl_message.specs.Message.{message_octets, message_of}
use Rattle.wl_history.specs.Machines.{map_ask}

abbrev pub maps_after : Message → MapState → MapState
maps_after (MapAsk token changes) maps = after_on_ask maps (map_ask token changes)
maps_after (MapReply token status) maps = after_reply maps token status
maps_after MapTeardown maps = after_teardown maps

abbrev pub reply_to : Message → MapState → Option Message
reply_to (MapAsk token changes) maps = Some (MapReply token (status_of maps (map_ask token changes)))
reply_to other maps = None

-- the same of a body of a lane: data says nothing
abbrev pub maps_told : Lane → List ℕ → MapState → MapState
maps_told (Tid tid) body maps = maps
maps_told Management body maps = maps_after (message_of body) maps

abbrev pub reply_told : Lane → List ℕ → MapState → Option (List ℕ)
reply_told (Tid tid) body maps = None
reply_told Management body maps = option_map message_octets (reply_to (message_of body) maps)
