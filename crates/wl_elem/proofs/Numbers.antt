-- Numbers, bits and fields: what is written and what is read.
use Rattle.std.proofs.Common.{◌≡◌, ℕ, zero, suc, ◌+◌, ◌*◌, ◌-◌, ◌/◌, ◌%◌, ◌^◌, ◌<◌, ◌≤◌, Bool, true, false, eqb, List, [], ◌∷◌, length, drop, get_or, Some, None, refl, sym, ap, ◌∙◌, arith, inl, inr}
use Rattle.std.proofs.lemmas.Bool.{cases_lt, lt-ltb, le-ltb}
use Rattle.std.proofs.Math.Nat.{pow-suc}
use Rattle.std.proofs.Math.Seq.{drop-cons}
use Rattle.wl_elem.specs.Bits.{bit, has_bit}
use Rattle.wl_elem.specs.Octets.{number, octets_of}
use Rattle.wl_elem.specs.Fields.{word_at, first_cut, total}
use Rattle.wl_elem.proofs.Octets.{IsOctets}

-- ---- numbers

pub length-octets_of : (width n : ℕ) → length (octets_of width n) ≡ width
length-octets_of zero n = refl
length-octets_of (suc width) n = ap suc (length-octets_of width (n / 256))

pub number-octets_of : (width n : ℕ) → n < 256 ^ width → number (octets_of width n) ≡ n
number-octets_of zero n lt = let e : 256 ^ 0 ≡ 1 = refl in omega arith
number-octets_of (suc width) n lt =
    let e : 256 ^ suc width ≡ 256 ^ width * 256 = pow-suc 256 width in
    let more : number (octets_of width (n / 256)) ≡ n / 256 = number-octets_of width (n / 256) (omega arith) in
    omega arith

pub octets_of-number : (octets : List ℕ) → IsOctets octets → octets_of (length octets) (number octets) ≡ octets
octets_of-number [] h = refl
octets_of-number (b ∷ octets) h =
    let lt : b < 256 = h.0 in
    let low : (b + 256 * number octets) % 256 ≡ b = omega arith in
    let high : (b + 256 * number octets) / 256 ≡ number octets = omega arith in
    rw (low, high) (ap (λ (x : List ℕ). b ∷ x) (octets_of-number octets h.1))

pub number-below : (octets : List ℕ) → IsOctets octets → number octets < 256 ^ length octets
number-below [] h = let e : 256 ^ 0 ≡ 1 = refl in omega arith
number-below (b ∷ octets) h =
    let lt : b < 256 = h.0 in
    let e : 256 ^ suc (length octets) ≡ 256 ^ length octets * 256 = pow-suc 256 (length octets) in
    let more : number octets < 256 ^ length octets = number-below octets h.1 in
    omega arith

-- ---- bits

pub bit_of : (n : ℕ) → n < 2 → bit (eqb n 1) ≡ n
bit_of zero lt = refl
bit_of (suc zero) lt = refl
bit_of (suc (suc n)) lt = absurd (omega arith)

-- a bit of a number is 0 or 1
pub bit_is : (n weight : ℕ) → bit (has_bit n weight) ≡ n / weight % 2
bit_is n weight = bit_of (n / weight % 2) (omega arith)

pub test_of : (n : ℕ) (b : Bool) → n ≡ bit b → eqb n 1 ≡ b
test_of n true e = rw e refl
test_of n false e = rw e refl

pub bit_small : (b : Bool) → bit b < 2
bit_small true = omega arith
bit_small false = omega arith

-- ---- what stands at a place

pub octet_below : (octets : List ℕ) (i : ℕ) → IsOctets octets → get_or octets i 0 < 256
octet_below [] i is = omega arith
octet_below (octet ∷ octets) zero is = is.0
octet_below (octet ∷ octets) (suc i) is = octet_below octets i is.1

pub word_below : (octets : List ℕ) (i : ℕ) → IsOctets octets → word_at octets i < 65536
word_below octets i is = omega (arith, octet_below octets i is, octet_below octets (i + 1) is)

-- ---- the first field that isn't whole

pub passes : (width : ℕ) (more : List ℕ) (left : ℕ) → width ≤ left → first_cut (width ∷ more) left ≡ first_cut more (left - width)
passes width more left le = rw (le-ltb left width le) refl

pub stops_at : (width : ℕ) (more : List ℕ) (left : ℕ) → left < width → first_cut (width ∷ more) left ≡ Some left
stops_at width more left lt = rw (lt-ltb left width lt) refl

-- the next width of the list
pub next_width : (widths : List ℕ) (i left : ℕ) → i < length widths → first_cut (drop i widths) left ≡ first_cut (get_or widths i 0 ∷ drop (suc i) widths) left
next_width widths i left lt = ap (λ (x : List ℕ). first_cut x left) (drop-cons widths i 0 lt)

-- all are whole exactly where there are octets for all
pub all_whole : (widths : List ℕ) (len : ℕ) → total widths ≤ len → first_cut widths len ≡ None
all_whole [] len le = refl
all_whole (width ∷ widths) len le = passes width widths len (omega arith) ∙ all_whole widths (len - width) (omega arith)

pub room_for : (widths : List ℕ) (len : ℕ) → first_cut widths len ≡ None → total widths ≤ len
room_for [] len e = omega arith
room_for (width ∷ widths) len e =
    elim (cases_lt len width) [
      | inl lt ↦ absurd (let two : Some len ≡ None = sym (stops_at width widths len lt) ∙ e in cc)
      | inr le ↦ let more = room_for widths (len - width) (sym (passes width widths len le) ∙ e) in omega (arith, more)
    ]

-- no more is left at a cut than there was
pub cut_within : (widths : List ℕ) (len left : ℕ) → first_cut widths len ≡ Some left → left ≤ len
cut_within [] len left e = absurd (cc e)
cut_within (width ∷ widths) len left e =
    elim (cases_lt len width) [
      | inl lt ↦ let same : Some len ≡ Some left = sym (stops_at width widths len lt) ∙ e in let is : len ≡ left = cc in omega arith
      | inr le ↦ let more = cut_within widths (len - width) left (sym (passes width widths len le) ∙ e) in omega (arith, more)
    ]
