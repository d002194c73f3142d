-- The text of a journal: a line for each step, the earliest first.
use Rattle.std.specs.Prelude.{ℕ, List, [], ◌∷◌, ◌++◌, length, Option, Some, None, codes}
use Rattle.serde_json.specs.Data.{Data, null, boolean, string, array}
use Rattle.serde_json.specs.Written.{compact_text}
use Rattle.wl_elem.specs.declared.lane.EndId.{EndId}
use Rattle.wl_elem.specs.declared.lane.EndId.TheVariants.{Ap, Sta}
use Rattle.wl_elem.specs.declared.lane.Lane.{Lane}
use Rattle.wl_elem.specs.declared.lane.Lane.TheVariants.{Tid, Management}
use Rattle.wl_elem.specs.Why.{why_name}
use Rattle.wl_number.specs.declared.numbers.Numbers.{Numbers}
use Rattle.wl_history.specs.declared.command.Command.{Command}
use Rattle.wl_history.specs.declared.command.Command.TheVariants as commands
use Rattle.wl_history.specs.declared.command.Machine.{Machine}
use Rattle.wl_history.specs.declared.command.Machine.TheVariants as machines
use Rattle.wl_history.specs.declared.outcome.Outcome.{Outcome}
use Rattle.wl_history.specs.declared.outcome.Outcome.TheVariants as outcomes
use Rattle.wl_history.specs.declared.outcome.KeptWhy.{KeptWhy}
use Rattle.wl_history.specs.declared.outcome.KeptWhy.TheVariants.{NotSetUp, Unpowered, Unmapped}
use Rattle.wl_history.specs.declared.step.Step.{Step}
use Rattle.wl_scene.specs.Objects.{Named, object_of, whole, wholes}

abbrev pub end_name : EndId → List ℕ
end_name Ap = codes "ap"
end_name Sta = codes "sta"

-- a TID by its number, management by its letter
abbrev pub lane_data : Lane → Data
lane_data (Tid tid) = whole tid
lane_data Management = string (codes "m")

-- the one of this number, or null for the latest
abbrev pub nth_data : Option ℕ → Data
nth_data (Some n) = whole n
nth_data None = null

abbrev pub kept_name : KeptWhy → List ℕ
kept_name NotSetUp = codes "notsetup"
kept_name Unpowered = codes "unpowered"
kept_name Unmapped = codes "unmapped"

-- what an end asked for
abbrev pub machine_name : Machine → List ℕ
machine_name machines.Map = codes "map"

abbrev pub end_member : EndId → Named
end_member end = (codes "end", string (end_name end))

abbrev pub lane_member : Lane → Named
lane_member lane = (codes "lane", lane_data lane)

abbrev pub link_member : ℕ → Named
link_member link = (codes "link", whole link)

abbrev pub pos_member : ℕ → Named
pos_member pos = (codes "pos", whole pos)

abbrev pub command_name : Command → List ℕ
command_name (commands.Queue end tid body) = codes "queue"
command_name (commands.Reserve end lane) = codes "reserve"
command_name (commands.Book end) = codes "book"
command_name (commands.Put end link) = codes "put"
command_name (commands.Again end link lane pos) = codes "again"
command_name (commands.Deliver end link nth) = codes "deliver"
command_name (commands.Alter end link nth number) = codes "alter"
command_name (commands.Forge end link lane key pn number body) = codes "forge"
command_name (commands.Inject end link octets) = codes "inject"
command_name (commands.AckOut end lane) = codes "ack_out"
command_name (commands.AckIn end nth) = codes "ack_in"
command_name (commands.BarOut end lane to) = codes "bar_out"
command_name (commands.BarIn end nth) = codes "bar_in"
command_name (commands.Install end) = codes "install"
command_name (commands.Turn end) = codes "turn"
command_name (commands.Power end link on) = codes "power"
command_name (commands.MapAsk end entries) = codes "map_ask"
command_name (commands.MapTeardown end) = codes "map_teardown"
command_name (commands.GiveUp end what) = codes "give_up"

-- what is shown of data and acknowledgements; of a body its size in octets
abbrev pub data_members : Command → List Named
data_members (commands.Queue end tid body) = end_member end ∷ (codes "tid", whole tid) ∷ (codes "size", whole (length body)) ∷ []
data_members (commands.Reserve end lane) = end_member end ∷ lane_member lane ∷ []
data_members (commands.Book end) = end_member end ∷ []
data_members (commands.Put end link) = end_member end ∷ link_member link ∷ []
data_members (commands.Again end link lane pos) = end_member end ∷ link_member link ∷ lane_member lane ∷ pos_member pos ∷ []
data_members (commands.AckOut end lane) = end_member end ∷ lane_member lane ∷ []
data_members (commands.AckIn end nth) = end_member end ∷ (codes "nth", nth_data nth) ∷ []
data_members (commands.BarOut end lane to) = end_member end ∷ lane_member lane ∷ (codes "to", whole to) ∷ []
data_members (commands.BarIn end nth) = end_member end ∷ (codes "nth", nth_data nth) ∷ []
data_members other = []

-- what is shown of what is heard; of octets their number, of a forged frame nothing
abbrev pub heard_members : Command → List Named
heard_members (commands.Deliver end link nth) = end_member end ∷ link_member link ∷ (codes "nth", nth_data nth) ∷ []
heard_members (commands.Inject end link octets) = end_member end ∷ link_member link ∷ (codes "size", whole (length octets)) ∷ []
heard_members (commands.Alter end link nth number) = end_member end ∷ link_member link ∷ (codes "nth", nth_data nth) ∷ (codes "number", whole number) ∷ []
heard_members (commands.Forge end link lane key pn number body) = end_member end ∷ link_member link ∷ []
heard_members other = []

-- what is shown of keys, radios and requests; of what is asked for nothing
abbrev pub setting_members : Command → List Named
setting_members (commands.Install end) = end_member end ∷ []
setting_members (commands.Turn end) = end_member end ∷ []
setting_members (commands.Power end link on) = end_member end ∷ link_member link ∷ (codes "on", boolean on) ∷ []
setting_members (commands.MapAsk end entries) = end_member end ∷ []
setting_members (commands.MapTeardown end) = end_member end ∷ []
setting_members (commands.GiveUp end what) = end_member end ∷ (codes "what", string (machine_name what)) ∷ []
setting_members other = []

-- what is shown of each command, which is one of these three kinds
abbrev pub command_members : Command → List Named
command_members command = data_members command ++ heard_members command ++ setting_members command

abbrev pub answer_name : Outcome → List ℕ
answer_name (outcomes.Queued pos) = codes "queued"
answer_name outcomes.Reserved = codes "reserved"
answer_name outcomes.HandFull = codes "handfull"
answer_name outcomes.NothingQueued = codes "nothingqueued"
answer_name outcomes.WindowFull = codes "windowfull"
answer_name (outcomes.Booked lane n) = codes "booked"
answer_name outcomes.NoReserve = codes "noreserve"
answer_name (outcomes.Spent lane) = codes "spent"
answer_name (outcomes.Put lane n retry) = codes "put"
answer_name (outcomes.Kept lane pos why) = codes "kept"
answer_name outcomes.Nothing = codes "nothing"
answer_name (outcomes.PutAgain n retry) = codes "put"
answer_name (outcomes.KeptAgain why) = codes "kept"
answer_name outcomes.NotThere = codes "notthere"
answer_name (outcomes.BadFrame why place) = codes "badframe"
answer_name outcomes.LinkDown = codes "linkdown"
answer_name outcomes.Ignored = codes "ignored"
answer_name outcomes.NoKey = codes "nokey"
answer_name outcomes.NotOpened = codes "notopened"
answer_name outcomes.Replay = codes "replay"
answer_name outcomes.OldNumber = codes "oldnumber"
answer_name outcomes.Double = codes "double"
answer_name (outcomes.Stored lane number n up) = codes "stored"
answer_name (outcomes.Acked start stored) = codes "acked"
answer_name outcomes.OldAck = codes "oldack"
answer_name (outcomes.Done count) = codes "done"
answer_name (outcomes.Barred start) = codes "barred"
answer_name outcomes.NotBooked = codes "notbooked"
answer_name outcomes.Behind = codes "behind"
answer_name outcomes.OldBar = codes "oldbar"
answer_name (outcomes.Moved lane start up) = codes "moved"
answer_name (outcomes.Installed key) = codes "installed"
answer_name (outcomes.Turned key) = codes "turned"
answer_name outcomes.KeysSpent = codes "keysspent"
answer_name outcomes.Set = codes "set"
answer_name (outcomes.Asked token) = codes "asked"
answer_name (outcomes.Busy token) = codes "busy"
answer_name outcomes.NotValid = codes "notvalid"
answer_name outcomes.Sent = codes "sent"
answer_name (outcomes.Given token) = codes "given"

-- the position, key number and packet number of a booking
abbrev pub booking_members : Lane → Numbers → List Named
booking_members lane n = lane_member lane ∷ pos_member n.pos ∷ (codes "key", whole n.key) ∷ (codes "pn", whole n.pn) ∷ []

-- the token of a request
abbrev pub token_member : ℕ → Named
token_member token = (codes "token", whole token)

-- what is shown of each answer
abbrev pub answer_members : Outcome → List Named
answer_members (outcomes.Queued pos) = pos_member pos ∷ []
answer_members outcomes.Reserved = []
answer_members outcomes.HandFull = []
answer_members outcomes.NothingQueued = []
answer_members outcomes.WindowFull = []
answer_members (outcomes.Booked lane n) = booking_members lane n
answer_members outcomes.NoReserve = []
answer_members (outcomes.Spent lane) = lane_member lane ∷ []
answer_members (outcomes.Put lane n retry) = (codes "retry", boolean retry) ∷ booking_members lane n
answer_members (outcomes.Kept lane pos why) = lane_member lane ∷ pos_member pos ∷ (codes "why", string (kept_name why)) ∷ []
answer_members outcomes.Nothing = []
answer_members (outcomes.PutAgain n retry) = (codes "retry", boolean retry) ∷ (codes "key", whole n.key) ∷ (codes "pn", whole n.pn) ∷ []
answer_members (outcomes.KeptAgain why) = (codes "why", string (kept_name why)) ∷ []
answer_members outcomes.NotThere = []
answer_members (outcomes.BadFrame why place) = (codes "why", string (why_name why)) ∷ (codes "place", whole place) ∷ []
answer_members outcomes.LinkDown = []
answer_members outcomes.Ignored = []
answer_members outcomes.NoKey = []
answer_members outcomes.NotOpened = []
answer_members outcomes.Replay = []
answer_members outcomes.OldNumber = []
answer_members outcomes.Double = []
answer_members (outcomes.Stored lane number n up) = lane_member lane ∷ (codes "number", whole number) ∷ (codes "up", array (wholes up)) ∷ []
answer_members (outcomes.Acked start stored) = (codes "start", whole start) ∷ (codes "stored", array (wholes stored)) ∷ []
answer_members outcomes.OldAck = []
answer_members (outcomes.Done count) = (codes "count", whole count) ∷ []
answer_members (outcomes.Barred start) = (codes "start", whole start) ∷ []
answer_members outcomes.NotBooked = []
answer_members outcomes.Behind = []
answer_members outcomes.OldBar = []
answer_members (outcomes.Moved lane start up) = (codes "up", array (wholes up)) ∷ []
answer_members (outcomes.Installed key) = (codes "key", whole key) ∷ []
answer_members (outcomes.Turned key) = (codes "key", whole key) ∷ []
answer_members outcomes.KeysSpent = []
answer_members outcomes.Set = []
answer_members (outcomes.Asked token) = token_member token ∷ []
answer_members (outcomes.Busy token) = token_member token ∷ []
answer_members outcomes.NotValid = []
answer_members outcomes.Sent = []
answer_members (outcomes.Given token) = token_member token ∷ []

-- A step: its thread, the command and the answer, each with its members.
abbrev pub step_data : Step → Data
step_data step =
    object_of ((codes "t", whole step.thread) ∷ (codes "do", string (command_name step.command)) ∷ (codes "out", string (answer_name step.outcome))
    ∷ (command_members step.command ++ answer_members step.outcome))

unfoldable pub line : Step → List ℕ
line step = compact_text (step_data step) ++ 10 ∷ []

-- The latest step is given first, and its line stands last.
abbrev pub journal_lines : List Step → List ℕ
journal_lines [] = []
journal_lines (step ∷ before) = journal_lines before ++ line step
