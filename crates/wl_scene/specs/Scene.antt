-- A scenario is a text of JSON: an object with the members below and no others, with at most 65,536 commands in
-- `before`, loops expanded, each of which is one.
--
-- | member     | value                                                                     |
-- |------------|---------------------------------------------------------------------------|
-- | version    | 1                                                                         |
-- | ap, sta    | MLD addresses of 12 hex digits, different                                 |
-- | key        | 32 hex digits, the base of all keys                                       |
-- | links      | a list of 1 to 4 objects: id below 15, ap and sta of 12 hex digits; the   |
-- |            | ids ascend, and no two addresses of one end are the same                  |
-- | associated | true where all links are set up at the start, false where none is; where  |
-- |            | it isn't there, true                                                      |
-- | window     | 1 to 256; where it isn't there, 64                                        |
-- | accept     | a list of ids of the links, ascending: those that the AP accepts; where   |
-- |            | it isn't there, all                                                       |
-- | deny       | a list of `ap` and `sta`, none twice: the ends that deny each mapping;    |
-- |            | where it isn't there, none                                                |
-- | first      | a list of objects: end, key 0 to 65,535 and pn 1 to 2^48 - 1, each end at |
-- |            | most once; an end that isn't named has key 0 and pn 1                     |
-- | before     | a list of commands; where it isn't there, none                            |
--
-- Where a name stands twice in an object, the last one counts.
use Rattle.std.specs.Prelude.{◌≡◌, ◌⊎◌, ℕ, max, nat_le, if◌then◌else◌, Bool, List, Option, Some, None, Result, Ok, Err, IsUtf8, codes}
use Rattle.serde_json.specs.Data.{Data, Items}
use Rattle.serde_json.specs.Find.{get}
use Rattle.serde_json.specs.Read.{read}
use Rattle.wl_elem.specs.declared.lane.EndId.{EndId}
use Rattle.wl_elem.specs.declared.lane.EndId.TheVariants.{Ap, Sta}
use Rattle.wl_history.specs.declared.script.Item.{Item}
use Rattle.wl_history.specs.declared.start.EndStart.{EndStart}
use Rattle.wl_history.specs.declared.start.Start.{Start}
use Rattle.wl_scene.specs.declared.scenario.Scenario.{Scenario}
use Rattle.wl_scene.specs.declared.first.First.{First}
use Rattle.wl_scene.specs.declared.first.Firsts.{Firsts}
use Rattle.wl_scene.specs.declared.policy.Denials.{Denials}
use Rattle.wl_scene.specs.declared.head.Head.{Head}
use Rattle.wl_scene.specs.Items.{count_all, items_of}
use Rattle.wl_scene.specs.Head.{items_from, head_of}

unfoldable pub commands_of : Data → Option Items
commands_of d = items_from (get (codes "before") d)

abbrev pub command_limit : ℕ
command_limit = 65536

abbrev pub first_by : EndId → Firsts → First
first_by Ap firsts = firsts.ap
first_by Sta firsts = firsts.sta

abbrev pub denies : EndId → Denials → Bool
denies Ap denials = denials.ap
denies Sta denials = denials.sta

-- What an end starts with. It sends under its own first key, and both ends hold the greater of the two.
abbrev pub end_start : EndId → Head → EndStart
end_start end head = record {
  end = end;
  ap = head.ap;
  sta = head.sta;
  key = head.key;
  links = head.links;
  associated = head.associated;
  window = head.window;
  accept = head.accept;
  deny = denies end head.denials;
  first_key = (first_by end head.firsts).key;
  first_pn = (first_by end head.firsts).pn;
  newest = max head.firsts.ap.key head.firsts.sta.key;
}

abbrev pub start_of : Head → Start
start_of head = record { ap = end_start Ap head; sta = end_start Sta head }

abbrev pub scripted : Head → Result (List Item) ℕ → Result Scenario ℕ
scripted head (Ok items) = Ok (record { start = start_of head; before = items })
scripted head (Err place) = Err place

abbrev pub with_commands : Head → Items → Result Scenario ℕ
with_commands head ds = if nat_le (count_all ds) command_limit then scripted head (items_of head.links ds) else Err 0

-- the members outside the commands and the count of the commands come first
abbrev pub scene_from : Option Head → Option Items → Result Scenario ℕ
scene_from (Some head) (Some ds) = with_commands head ds
scene_from (Some head) None = Err 0
scene_from None ds = Err 0

-- The scenario that a value is, or the refused place: 0 for the members outside the commands and for
-- too many commands, else the number of the first wrong command, counted from 1, a loop before the
-- commands in its body and each of these once.
abbrev pub scene_of : Data → Result Scenario ℕ
scene_of d = scene_from (head_of d) (commands_of d)

-- the text is JSON of this value
pub record IsJson (text : List ℕ) (d : Data) : Type 0 where
  pub utf8 : IsUtf8 text
  pub value : read text ≡ Some d

abbrev pub IsNoJson : List ℕ → Type 0
IsNoJson text = (d : Data) → IsJson text d → ⊥

-- The text read as a scenario, or as refused at a place, 0 where it is no JSON.
abbrev pub SceneOf : List ℕ → Result Scenario ℕ → Type 0
SceneOf text (Ok scenario) = (d : Data) × IsJson text d × (scene_of d ≡ Ok scenario)
SceneOf text (Err place) = (IsNoJson text × (place ≡ 0)) ⊎ ((d : Data) × IsJson text d × (scene_of d ≡ Err place))
