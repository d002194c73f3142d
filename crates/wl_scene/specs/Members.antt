-- Members of JSON objects that are read.
use Rattle.std.specs.Prelude.{ℕ, ◌==◌, ◌&&◌, ◌||◌, nat_le, nat_lt, if◌then◌else◌, Bool, true, false, List, [], ◌∷◌, Option, Some, None, option_and_then, bytes_eq}
use Rattle.std.specs.Result.{result_ok}
use Rattle.hex.specs.Hex.{decode_of, decode_sized}
use Rattle.serde_json.specs.Data.{Data, object, Items, no_items, item, Members, no_members, member}
use Rattle.serde_json.specs.Find.{get, as_bool, as_number, as_str, as_array, as_u64}

-- what follows what was found
infixl 10 ◌>>=◌
abbrev pub ◌>>=◌ : {A B : Type 0} → Option A → (A → Option B) → Option B
(Some x) >>= f = f x
None >>= f = None

abbrev pub is_among : List ℕ → List (List ℕ) → Bool
is_among name [] = false
is_among name (other ∷ names) = bytes_eq name other || is_among name names

abbrev pub are_among : Members → List (List ℕ) → Bool
are_among no_members names = true
are_among (member name d ms) names = is_among name names && are_among ms names

-- it is an object without a member of another name
abbrev pub has_only : List (List ℕ) → Data → Bool
has_only names (object ms) = are_among ms names
has_only names other = false

-- A whole number: one that is written without fraction, exponent and minus sign, below 2^64.
abbrev pub whole_of : Data → Option ℕ
whole_of d = option_and_then as_u64 (as_number d)

abbrev pub below : ℕ → ℕ → Option ℕ
below bound n = if nat_lt n bound then Some n else None

abbrev pub in_range : ℕ → ℕ → ℕ → Option ℕ
in_range low high n = if nat_le low n && nat_le n high then Some n else None

abbrev pub whole_at : List ℕ → Data → Option ℕ
whole_at name d = option_and_then whole_of (get name d)

-- the number below the bound that the member of this name is
abbrev pub number_at : List ℕ → ℕ → Data → Option ℕ
number_at name bound d = option_and_then (below bound) (whole_at name d)

-- the number from the one to the other that the member of this name is
abbrev pub ranged_at : List ℕ → ℕ → ℕ → Data → Option ℕ
ranged_at name low high d = option_and_then (in_range low high) (whole_at name d)

abbrev pub text_at : List ℕ → Data → Option (List ℕ)
text_at name d = option_and_then as_str (get name d)

abbrev pub list_at : List ℕ → Data → Option Items
list_at name d = option_and_then as_array (get name d)

-- so many octets, as two hex digits each, of either case
abbrev pub octets_at : List ℕ → ℕ → Data → Option (List ℕ)
octets_at name size d = option_and_then (λ text. result_ok (decode_sized text size)) (text_at name d)

-- any octets as hex digits
abbrev pub hex_at : List ℕ → Data → Option (List ℕ)
hex_at name d = option_and_then (λ text. result_ok (decode_of text)) (text_at name d)

abbrev pub is_number : Option ℕ → ℕ → Bool
is_number (Some n) m = n == m
is_number None m = false

-- the member of this name is this number
abbrev pub has_number : List ℕ → ℕ → Data → Bool
has_number name m d = is_number (option_and_then whole_of (get name d)) m

abbrev pub is_text : Option (List ℕ) → List ℕ → Bool
is_text (Some text) word = bytes_eq text word
is_text None word = false

-- the member of this name is this text
abbrev pub has_text : List ℕ → List ℕ → Data → Bool
has_text name word d = is_text (text_at name d) word

abbrev pub bool_at : List ℕ → Data → Option Bool
bool_at name d = option_and_then as_bool (get name d)

abbrev pub is_true : Option Bool → Bool
is_true (Some b) = b
is_true None = false

-- the member of this name is true
abbrev pub has_true : List ℕ → Data → Bool
has_true name d = is_true (bool_at name d)

abbrev pub in_front : {A : Type 0} → Option A → Option (List A) → Option (List A)
in_front (Some x) (Some xs) = Some (x ∷ xs)
in_front (Some x) None = None
in_front None xs = None

-- what each element of a list is, where each is something
abbrev pub each_of : {A : Type 0} → (Data → Option A) → Items → Option (List A)
each_of read no_items = Some []
each_of read (item d ds) = in_front (read d) (each_of read ds)
