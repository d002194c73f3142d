-- A shown value: its name, and in parentheses its parts, with commas between them. Numbers are
-- decimal, flags 0 or 1, octets hex, and `-` stands for what isn't there.
use Rattle.std.specs.Prelude.{ℕ, Bool, true, false, List, [], ◌∷◌, ◌++◌, Option, Some, None, codes}
use Rattle.std.specs.Fmt.{decimal}
use Rattle.hex.specs.Hex.{encode_lower}

-- a part with its name
abbrev pub named : List ℕ → List ℕ → List ℕ
named name text = name ++ codes "=" ++ text

-- each part behind a comma
abbrev pub more_parts : List (List ℕ) → List ℕ
more_parts [] = []
more_parts (part ∷ parts) = codes "," ++ part ++ more_parts parts

abbrev pub joined_parts : List (List ℕ) → List ℕ
joined_parts [] = []
joined_parts (part ∷ parts) = part ++ more_parts parts

-- the value of this name with these parts
abbrev pub shown_value : List ℕ → List (List ℕ) → List ℕ
shown_value name parts = name ++ codes "(" ++ joined_parts parts ++ codes ")"

abbrev pub flag_text : Bool → List ℕ
flag_text true = codes "1"
flag_text false = codes "0"

abbrev pub optional_text : Option ℕ → List ℕ
optional_text (Some n) = decimal n
optional_text None = codes "-"

abbrev pub optional_octets : Option (List ℕ) → List ℕ
optional_octets (Some octets) = encode_lower octets
optional_octets None = codes "-"
