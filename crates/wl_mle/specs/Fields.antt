-- Fields one after the other, each there or not, in an Info field whose length counts itself. A slot
-- of a layout says whether its field is there and in how many octets.
use Rattle.std.specs.Prelude.{ℕ, suc, ◌+◌, ◌*◌, ◌-◌, ◌<◌, nat_lt, if◌then◌else◌, Bool, List, [], ◌∷◌, ◌++◌, length, take, drop, Option, Some, None}
use Rattle.wl_elem.specs.declared.why.Why.{Why}
use Rattle.wl_elem.specs.declared.fault.Refusal.{Refusal}
use Rattle.wl_elem.specs.Answers.{refusal_at}
use Rattle.wl_elem.specs.Octets.{octets_of}
use Rattle.wl_elem.specs.Fields.{octets_in, width_if}

-- the control word that octets begin with
abbrev pub word_of : List ℕ → ℕ
word_of [] = 0
word_of (low ∷ []) = low
word_of (low ∷ high ∷ rest) = low + 256 * high

-- the fields in order
abbrev pub known : List (Option (List ℕ)) → List ℕ
known [] = []
known (field ∷ fields) = octets_in field ++ known fields

-- how many octets they have
abbrev pub known_len : List (Option (List ℕ)) → ℕ
known_len [] = 0
known_len (field ∷ fields) = length (octets_in field) + known_len fields

-- an Info field is no longer than its length octet can say
abbrev pub IsShort : List (Option (List ℕ)) → List ℕ → Type 0
IsShort fields tail = length (known fields) + length tail < 255

-- the length, the known fields, and what follows them within the length
abbrev pub info : List (Option (List ℕ)) → List ℕ → List ℕ
info fields tail = suc (length (known fields) + length tail) ∷ (known fields ++ tail)

-- a control word, an Info field, and what follows it
abbrev pub info_text : ℕ → List (Option (List ℕ)) → List ℕ → List ℕ → List ℕ
info_text control fields tail rest = octets_of 2 control ++ (info fields tail ++ rest)

-- how many octets the fields of these slots take
abbrev pub need : List (Bool × ℕ) → ℕ
need [] = 0
need (slot ∷ slots) = width_if slot.0 slot.1 + need slots

-- The first test that the octets behind a control word fail, where the fields take so many: a length
-- octet that isn't there or is below what they take, a length past the end.
abbrev pub info_fault : Why → Why → ℕ → List ℕ → Option Why
info_fault short long least [] = Some short
info_fault short long least (len ∷ rest) = if nat_lt len (suc least) then Some short else if nat_lt (suc (length rest)) len then Some long else None

-- the refusal where that test fails: the length stands behind the control word
abbrev pub at_info : Option Why → Option Refusal → Option Refusal
at_info (Some why) other = Some (refusal_at 2 why)
at_info None other = other

-- the octets of an Info field behind its length
abbrev pub area_of : List ℕ → List ℕ
area_of [] = []
area_of (len ∷ rest) = take (len - 1) rest

-- what follows an Info field
abbrev pub behind_info : List ℕ → List ℕ
behind_info [] = []
behind_info (len ∷ rest) = drop (len - 1) rest
