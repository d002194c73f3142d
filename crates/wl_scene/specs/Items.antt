-- Loops over commands, and all commands of a scenario.
use Rattle.std.specs.Prelude.{ℕ, suc, ◌+◌, ◌*◌, if◌then◌else◌, Bool, List, [], ◌∷◌, length, Option, Some, None, Result, Ok, Err, codes}
use Rattle.serde_json.specs.Data.{Data, Items, no_items, item}
use Rattle.serde_json.specs.Events.{items_len}
use Rattle.wl_history.specs.declared.script.Plain.{Plain}
use Rattle.wl_history.specs.declared.script.Item.{Item}
use Rattle.wl_history.specs.declared.script.Item.TheVariants.{Once, Loop}
use Rattle.wl_history.specs.declared.start.LinkStart.{LinkStart}
use Rattle.wl_scene.specs.Members.{has_only, has_text, ranged_at, list_at}
use Rattle.wl_scene.specs.Commands.{command_of}

-- ---- loops

abbrev pub is_loop : Data → Bool
is_loop d = has_text (codes "do") (codes "loop") d

abbrev pub times_at : Data → Option ℕ
times_at d = ranged_at (codes "times") 1 65536 d

-- a command before others, or the number of the first that is none
abbrev pub before_plains : Option Plain → Result (List Plain) ℕ → Result (List Plain) ℕ
before_plains None others = Err 1
before_plains (Some plain) (Ok plains) = Ok (plain ∷ plains)
before_plains (Some plain) (Err number) = Err (suc number)

-- the commands of a loop's body, or the number of the first that is none or a loop, counted from 1
abbrev pub plains_of : List LinkStart → Items → Result (List Plain) ℕ
plains_of links no_items = Ok []
plains_of links (item d ds) = before_plains (command_of links d) (plains_of links ds)

-- a loop, or the place in it: its own is 1, and its commands follow
abbrev pub looped : ℕ → Result (List Plain) ℕ → Result Item ℕ
looped times (Ok body) = Ok (Loop times body)
looped times (Err number) = Err (suc number)

abbrev pub loop_from : List LinkStart → Option ℕ → Option Items → Result Item ℕ
loop_from links (Some times) (Some ds) = looped times (plains_of links ds)
loop_from links (Some times) None = Err 1
loop_from links None ds = Err 1

unfoldable pub loop_of : List LinkStart → Data → Result Item ℕ
loop_of links d =
    if has_only (codes "do" ∷ codes "times" ∷ codes "body" ∷ []) d
    then loop_from links (times_at d) (list_at (codes "body") d) else Err 1

-- ---- all commands

abbrev pub once_from : Option Plain → Result Item ℕ
once_from (Some plain) = Ok (Once plain)
once_from None = Err 1

-- The command that a value is, or the place in it that is wrong: 1 for itself, else one above the
-- number of the first wrong command in its body.
abbrev pub item_of : List LinkStart → Data → Result Item ℕ
item_of links d = if is_loop d then loop_of links d else once_from (command_of links d)

-- how many places a command has: a loop one for itself, and one for each command in its body
abbrev pub places_of : Item → ℕ
places_of (Once plain) = 1
places_of (Loop times body) = suc (length body)

-- a command before others, or the place of the first that is wrong
abbrev pub before_others : Result Item ℕ → Result (List Item) ℕ → Result (List Item) ℕ
before_others (Err place) others = Err place
before_others (Ok one) (Ok items) = Ok (one ∷ items)
before_others (Ok one) (Err place) = Err (places_of one + place)

-- The commands in order, or the place of the first that is wrong, counted from 1.
abbrev pub items_of : List LinkStart → Items → Result (List Item) ℕ
items_of links no_items = Ok []
items_of links (item d ds) = before_others (item_of links d) (items_of links ds)

-- ---- the count

-- a loop counts its times by its length, and as one command where one of these is wrong
abbrev pub loop_count : Option ℕ → Option Items → ℕ
loop_count (Some times) (Some ds) = times * items_len ds
loop_count (Some times) None = 1
loop_count None ds = 1

-- How many commands a value counts as, whether it is one or not.
unfoldable pub count_of : Data → ℕ
count_of d = if is_loop d then loop_count (times_at d) (list_at (codes "body") d) else 1

-- how many commands a list counts as
abbrev pub count_all : Items → ℕ
count_all no_items = 0
count_all (item d ds) = count_of d + count_all ds
