-- Fields one after the other (IEEE Std 802.11, 9.2.2). Each is there or not, and takes so many octets
-- where it is. Numbers have their lowest octet first.
use Rattle.std.specs.Prelude.{ℕ, ◌+◌, ◌*◌, ◌-◌, ◌^◌, ◌<◌, nat_lt, if◌then◌else◌, Bool, true, false, List, [], ◌∷◌, take, drop, slice_index, Option, Some, None}
use Rattle.wl_elem.specs.Octets.{number, octets_of}

-- ---- what is written

-- a number in so many octets, where it is there
abbrev pub number_field : ℕ → Option ℕ → Option (List ℕ)
number_field width None = None
number_field width (Some n) = Some (octets_of width n)

-- the octets of a field, none where it isn't there
abbrev pub octets_in : Option (List ℕ) → List ℕ
octets_in None = []
octets_in (Some octets) = octets

-- the octets of a number's field
abbrev pub field : ℕ → Option ℕ → List ℕ
field width value = octets_in (number_field width value)

-- a field of this width has room for the number
abbrev pub Fits : ℕ → Option ℕ → Type 0
Fits width None = Unit {0}
Fits width (Some n) = n < 256 ^ width

-- how many octets a field takes
abbrev pub width_if : Bool → ℕ → ℕ
width_if true width = width
width_if false width = 0

-- ---- what is read

-- a field where it is there, and what follows it

abbrev pub field_at : Bool → ℕ → List ℕ → Option (List ℕ)
field_at true width octets = Some (take width octets)
field_at false width octets = None

abbrev pub after_field : Bool → ℕ → List ℕ → List ℕ
after_field true width octets = drop width octets
after_field false width octets = octets

-- the number of a field
abbrev pub number_in : Option (List ℕ) → Option ℕ
number_in None = None
number_in (Some octets) = Some (number octets)

-- the number of two octets at a place
abbrev pub word_at : List ℕ → ℕ → ℕ
word_at octets place = slice_index octets place + 256 * slice_index octets (place + 1)

-- the address at a place
abbrev pub address_at : List ℕ → ℕ → List ℕ
address_at octets place = slice_index octets place ∷ slice_index octets (place + 1) ∷ slice_index octets (place + 2)
    ∷ slice_index octets (place + 3) ∷ slice_index octets (place + 4) ∷ slice_index octets (place + 5) ∷ []

-- how many octets fields of these widths take
abbrev pub total : List ℕ → ℕ
total [] = 0
total (width ∷ widths) = width + total widths

-- The first of fields of these widths that isn't whole, where so many octets are left: how many are
-- left at that field. A field that isn't there has width 0.
abbrev pub first_cut : List ℕ → ℕ → Option ℕ
first_cut [] left = None
first_cut (width ∷ widths) left = if nat_lt left width then Some left else first_cut widths (left - width)
