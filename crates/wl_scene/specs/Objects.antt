-- JSON objects that are written: their members by name, in the byte order of the names.
use Rattle.std.specs.Prelude.{ℕ, List, [], ◌∷◌}
use Rattle.serde_json.specs.Data.{Data, object, number, unsigned, Items, no_items, item, Members, no_members, put}

-- a member: its name and its value
abbrev pub Named : Type 0
Named = List ℕ × Data

-- the members found so far, with these
abbrev pub with_members : List Named → Members → Members
with_members [] found = found
with_members (m ∷ ms) found = with_members ms (put m.0 m.1 found)

-- The object of these members, whatever their order here: each goes to the place of its name.
abbrev pub object_of : List Named → Data
object_of ms = object (with_members ms no_members)

abbrev pub whole : ℕ → Data
whole n = number (unsigned n)

-- a list, each element shown so
abbrev pub listed : {A : Type 0} → (A → Data) → List A → Items
listed shown [] = no_items
listed shown (x ∷ xs) = item (shown x) (listed shown xs)

-- a list of numbers
abbrev pub wholes : List ℕ → Items
wholes ns = listed whole ns
