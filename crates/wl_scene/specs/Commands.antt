-- Commands of a scenario. Each is an object with `do` and the members of its row, and no others:
--
-- | do           | members                                    |
-- |--------------|--------------------------------------------|
-- | queue        | end, tid, body                             |
-- | send         | end, link, lane                            |
-- | reserve      | end, lane                                  |
-- | book         | end                                        |
-- | put          | end, link                                  |
-- | again        | end, link, lane, pos                       |
-- | deliver      | end, link, nth or not                      |
-- | inject       | end, link, hex                             |
-- | alter        | end, link, nth or not, number              |
-- | forge        | end, link, lane, key, pn, number, body     |
-- | ack_out      | end, lane                                  |
-- | ack_in       | end, nth or not                            |
-- | bar_out      | end, lane, to                              |
-- | bar_in       | end, nth or not                            |
-- | install      | end                                        |
-- | turn         | end                                        |
-- | power        | end, link, on                              |
-- | map_ask      | end, entries                               |
-- | map_teardown | end                                        |
-- | give_up      | end, what                                  |
-- | loop         | times 1 to 65,536, body a list of commands |
-- |              | without loops                              |
--
-- `end` is `ap` or `sta`, `tid` is 0 to 7, `lane` 0 to 7 or `m`, `link` is the ID of one of the scenario's links,
-- `nth`, `pos` and `to` are below 2^32, `key` is 0 to 65,535, `pn` 1 to 2^48 - 1 and `number` 0 to 4,095. The body
-- of a queue or a forge is hex text of 1 to 2,304 octets, `hex` of 0 to 4,096. `on` is true or false, `entries` are
-- those of Entries.antt, and `what` is `map`.
use Rattle.std.specs.Prelude.{if◌then◌else◌, List, [], ◌∷◌, Option, Some, None, option_and_then, option_map, bytes_eq, ℕ, codes}
use Rattle.serde_json.specs.Data.{Data}
use Rattle.wl_elem.specs.declared.lane.EndId.{EndId}
use Rattle.wl_history.specs.declared.command.Command.{Command}
use Rattle.wl_history.specs.declared.command.Command.TheVariants as commands
use Rattle.wl_history.specs.declared.script.Plain.{Plain}
use Rattle.wl_history.specs.declared.script.Plain.TheVariants.{Do, Send}
use Rattle.wl_history.specs.declared.start.LinkStart.{LinkStart}
use Rattle.wl_scene.specs.Members.{◌>>=◌, has_only, text_at}
use Rattle.wl_scene.specs.Fields.{end_at, tid_at, lane_at, link_in, key_at, pn_at, body_at, injected_at, position_at, sequence_at, nth_at, on_at, machine_at}
use Rattle.wl_scene.specs.Entries.{entries_at}

-- the end of a command that has no other member
abbrev pub alone_at : Data → Option EndId
alone_at d = if has_only (codes "do" ∷ codes "end" ∷ []) d then end_at d else None

-- a command whose only member is its end
abbrev pub by_end : (EndId → Command) → Data → Option Plain
by_end make d = option_map (λ end. Do (make end)) (alone_at d)

abbrev pub queue_of : Data → Option Plain
queue_of d = if has_only (codes "do" ∷ codes "end" ∷ codes "tid" ∷ codes "body" ∷ []) d then (do
  end ← end_at d
  tid ← tid_at d
  body ← body_at d
  Some (Do (commands.Queue end tid body))) else None

abbrev pub send_of : List LinkStart → Data → Option Plain
send_of links d = if has_only (codes "do" ∷ codes "end" ∷ codes "link" ∷ codes "lane" ∷ []) d then (do
  end ← end_at d
  link ← link_in links d
  lane ← lane_at d
  Some (Send end link lane)) else None

abbrev pub reserve_of : Data → Option Plain
reserve_of d = if has_only (codes "do" ∷ codes "end" ∷ codes "lane" ∷ []) d then (do
  end ← end_at d
  lane ← lane_at d
  Some (Do (commands.Reserve end lane))) else None

abbrev pub put_of : List LinkStart → Data → Option Plain
put_of links d = if has_only (codes "do" ∷ codes "end" ∷ codes "link" ∷ []) d then (do
  end ← end_at d
  link ← link_in links d
  Some (Do (commands.Put end link))) else None

abbrev pub deliver_of : List LinkStart → Data → Option Plain
deliver_of links d = if has_only (codes "do" ∷ codes "end" ∷ codes "link" ∷ codes "nth" ∷ []) d then (do
  end ← end_at d
  link ← link_in links d
  nth ← nth_at d
  Some (Do (commands.Deliver end link nth))) else None

abbrev pub again_of : List LinkStart → Data → Option Plain
again_of links d = if has_only (codes "do" ∷ codes "end" ∷ codes "link" ∷ codes "lane" ∷ codes "pos" ∷ []) d then (do
  end ← end_at d
  link ← link_in links d
  lane ← lane_at d
  pos ← position_at (codes "pos") d
  Some (Do (commands.Again end link lane pos))) else None

abbrev pub alter_of : List LinkStart → Data → Option Plain
alter_of links d = if has_only (codes "do" ∷ codes "end" ∷ codes "link" ∷ codes "nth" ∷ codes "number" ∷ []) d then (do
  end ← end_at d
  link ← link_in links d
  nth ← nth_at d
  number ← sequence_at d
  Some (Do (commands.Alter end link nth number))) else None

abbrev pub forge_of : List LinkStart → Data → Option Plain
forge_of links d =
    if has_only (codes "do" ∷ codes "end" ∷ codes "link" ∷ codes "lane" ∷ codes "key" ∷ codes "pn" ∷ codes "number" ∷ codes "body" ∷ []) d then (do
      end ← end_at d
      link ← link_in links d
      lane ← lane_at d
      key ← key_at d
      pn ← pn_at d
      number ← sequence_at d
      body ← body_at d
      Some (Do (commands.Forge end link lane key pn number body))) else None

abbrev pub inject_of : List LinkStart → Data → Option Plain
inject_of links d = if has_only (codes "do" ∷ codes "end" ∷ codes "link" ∷ codes "hex" ∷ []) d then (do
  end ← end_at d
  link ← link_in links d
  octets ← injected_at d
  Some (Do (commands.Inject end link octets))) else None

abbrev pub map_ask_of : Data → Option Plain
map_ask_of d = if has_only (codes "do" ∷ codes "end" ∷ codes "entries" ∷ []) d then (do
  end ← end_at d
  entries ← entries_at d
  Some (Do (commands.MapAsk end entries))) else None

abbrev pub ack_out_of : Data → Option Plain
ack_out_of d = if has_only (codes "do" ∷ codes "end" ∷ codes "lane" ∷ []) d then (do
  end ← end_at d
  lane ← lane_at d
  Some (Do (commands.AckOut end lane))) else None

abbrev pub ack_in_of : Data → Option Plain
ack_in_of d = if has_only (codes "do" ∷ codes "end" ∷ codes "nth" ∷ []) d then (do
  end ← end_at d
  nth ← nth_at d
  Some (Do (commands.AckIn end nth))) else None

abbrev pub bar_out_of : Data → Option Plain
bar_out_of d = if has_only (codes "do" ∷ codes "end" ∷ codes "lane" ∷ codes "to" ∷ []) d then (do
  end ← end_at d
  lane ← lane_at d
  to ← position_at (codes "to") d
  Some (Do (commands.BarOut end lane to))) else None

abbrev pub bar_in_of : Data → Option Plain
bar_in_of d = if has_only (codes "do" ∷ codes "end" ∷ codes "nth" ∷ []) d then (do
  end ← end_at d
  nth ← nth_at d
  Some (Do (commands.BarIn end nth))) else None

abbrev pub power_of : List LinkStart → Data → Option Plain
power_of links d = if has_only (codes "do" ∷ codes "end" ∷ codes "link" ∷ codes "on" ∷ []) d then (do
  end ← end_at d
  link ← link_in links d
  on ← on_at d
  Some (Do (commands.Power end link on))) else None

abbrev pub give_up_of : Data → Option Plain
give_up_of d = if has_only (codes "do" ∷ codes "end" ∷ codes "what" ∷ []) d then (do
  end ← end_at d
  what ← machine_at d
  Some (Do (commands.GiveUp end what))) else None

-- ---- commands by name

-- one without octets and lists
abbrev pub named : List LinkStart → List ℕ → Data → Option Plain
named links name d =
    if bytes_eq name (codes "send") then send_of links d
    else if bytes_eq name (codes "reserve") then reserve_of d
    else if bytes_eq name (codes "book") then by_end commands.Book d
    else if bytes_eq name (codes "put") then put_of links d
    else if bytes_eq name (codes "again") then again_of links d
    else if bytes_eq name (codes "deliver") then deliver_of links d
    else if bytes_eq name (codes "alter") then alter_of links d
    else if bytes_eq name (codes "ack_out") then ack_out_of d
    else if bytes_eq name (codes "ack_in") then ack_in_of d
    else if bytes_eq name (codes "bar_out") then bar_out_of d
    else if bytes_eq name (codes "bar_in") then bar_in_of d
    else if bytes_eq name (codes "install") then by_end commands.Install d
    else if bytes_eq name (codes "turn") then by_end commands.Turn d
    else if bytes_eq name (codes "power") then power_of links d
    else if bytes_eq name (codes "map_teardown") then by_end commands.MapTeardown d
    else if bytes_eq name (codes "give_up") then give_up_of d
    else None

abbrev pub any_named : List LinkStart → Data → List ℕ → Option Plain
any_named links d name =
    if bytes_eq name (codes "queue") then queue_of d
    else if bytes_eq name (codes "forge") then forge_of links d
    else if bytes_eq name (codes "inject") then inject_of links d
    else if bytes_eq name (codes "map_ask") then map_ask_of d
    else named links name d

-- the command that the value is, over one of these links, where it is one and no loop
unfoldable pub command_of : List LinkStart → Data → Option Plain
command_of links d = option_and_then (any_named links d) (text_at (codes "do") d)
