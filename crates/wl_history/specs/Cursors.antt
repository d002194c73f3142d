-- What is left of a script from the place in it that a cursor of the program keeps.
use Rattle.std.specs.Prelude.{ℕ, zero, suc, ◌+◌, ◌-◌, List, [], ◌∷◌, ◌++◌, drop}
use Rattle.wl_history.specs.declared.cursor.Cursor.{Cursor as Kept}
use Rattle.wl_history.specs.declared.script.Item.{Item}
use Rattle.wl_history.specs.declared.script.Plain.{Plain}
use Rattle.wl_history.specs.Scripts.{Cursor, cursor_at, times_of, body_of, repeated, plains}

-- so many rounds, the first from this place on
abbrev pub rounds_from : ℕ → ℕ → List Plain → List Plain
rounds_from zero place body = []
rounds_from (suc later) place body = drop place body ++ repeated later body

abbrev pub item_from : Item → ℕ → ℕ → List Plain
item_from item round place = rounds_from (times_of item - round) place (body_of item)

abbrev pub left_from : List Item → ℕ → ℕ → List Plain
left_from [] round place = []
left_from (item ∷ items) round place = item_from item round place ++ plains items

abbrev pub cursor_of : List Item → Kept → Cursor
cursor_of script kept = cursor_at kept.stage (left_from (drop kept.item script) kept.round kept.place)

-- what is left behind the thing that it stands at
abbrev pub left_behind : List Item → Kept → List Plain
left_behind script kept = left_from (drop kept.item script) kept.round (kept.place + 1)
