-- Lines and hex lines.
use Rattle.std.proofs.Common.{◌≡◌, ℕ, ◌+◌, ◌*◌, ◌/◌, ◌%◌, ◌<◌, Bool, true, false, cond, eq-eqb, List, [], ◌∷◌, ◌++◌, length, map, Option, None, Some, Result, Ok, Err, refl, sym, ap, subst, ◌∙◌, arith, inl, inr, bytes_eq}
use Rattle.std.specs.Prelude.{◌==◌, ◌⊎◌, MatchResult}
use Rattle.std.specs.List.{slice_split, onto_first, AllByRecursion, position_from, position}
use Rattle.std.specs.Str.Lines.{strip_carriage_return}
use Rattle.std.proofs.lemmas.Bool.{eqb-true}
use Rattle.std.proofs.lemmas.Bool.Decides.{eqb_tells}
use Rattle.std.proofs.lemmas.List.Elements.{All-from_recursion, recursion_from_All}
use Rattle.std.proofs.lemmas.List.Splits.{slice_split_at, slice_split_none}
use Rattle.std.proofs.lemmas.Iterator.Adapters.{position_from-zero}
use Rattle.std.proofs.lemmas.Slice.Eq.{bytes_eq-Decides}
use Rattle.hex.specs.Hex.{decode_of, decode_sized, is_hex_digit}
use Rattle.hex.specs.declared.error.FromHexError.{FromHexError}
use Rattle.hex.proofs.HexLemmas.{decode_of-ok, decode_of-odd, decode_sized-odd, decode_sized-twice}
use Rattle.wl_shown.specs.declared.line.Kind.{Kind}
use Rattle.wl_shown.specs.declared.line.Kind.TheVariants.{Elements, Action, AssocAsk, AssocReply, Frame}
use Rattle.wl_shown.specs.Line.{Lacks, IsSplitAt, without_last, lines_of, kind_word, IsKindLine, IsHexLine, IsOnlyReading, IsNoHexLine}

parity : (n : ℕ) → (n % 2 ≡ 0) ⊎ (n % 2 ≡ 1)
parity n = elim (eqb_tells (n % 2) 0) [ inl even ↦ inl even.1 | inr odd ↦ inr (omega (arith, odd.1)) ]

abbrev err_octets : FromHexError → Result (List ℕ) FromHexError
err_octets e = Err e

abbrev failure : FromHexError → Result Unit FromHexError
failure e = Err e

same_error : (d e : FromHexError) → failure d ≡ failure e → d ≡ e
same_error d e h = cc

abbrev ok_octets : List ℕ → Result (List ℕ) FromHexError
ok_octets octets = Ok octets

-- ---- the first place of an octet

pub record IsPlace (octet : ℕ) (octets : List ℕ) (place : ℕ) : Type 0 where
  pub front : List ℕ
  pub back : List ℕ
  pub split : IsSplitAt octet octets front back
  pub counted : place ≡ length front

abbrev pub IsPlaceFrom : ℕ → List ℕ → ℕ → Option ℕ → Type 0
IsPlaceFrom octet octets from None = Lacks octet octets
IsPlaceFrom octet octets from (Some place) = (k : ℕ) × (place ≡ from + k) × IsPlace octet octets k

place_more : (octet o : ℕ) (octets : List ℕ) (from : ℕ) (r : Option ℕ) → (o == octet) ≡ false → IsPlaceFrom octet octets (from + 1) r → IsPlaceFrom octet (o ∷ octets) from r
place_more octet o octets from None other rest = (other, rest)
place_more octet o octets from (Some place) other (k, counted, is) =
    (k + 1, omega (arith, counted), record { front = o ∷ is.front; back = is.back; split = (ap (λ (x : List ℕ). o ∷ x) is.split.0, (other, is.split.1)); counted = omega (arith, is.counted) })

place_first : (octet o : ℕ) (octets : List ℕ) (from : ℕ) (b : Bool) → (o == octet) ≡ b → IsPlaceFrom octet octets (from + 1) (position_from (λ x. x == octet) (from + 1) octets)
    → IsPlaceFrom octet (o ∷ octets) from (cond b (Some from) (position_from (λ x. x == octet) (from + 1) octets))
place_first octet o octets from true same rest = (0, omega arith, record { front = []; back = octets; split = (ap (λ (x : ℕ). x ∷ octets) (eqb-true o octet same), tt); counted = refl })
place_first octet o octets from false other rest = place_more octet o octets from (position_from (λ x. x == octet) (from + 1) octets) other rest

place_from : (octet : ℕ) (octets : List ℕ) (from : ℕ) → IsPlaceFrom octet octets from (position_from (λ x. x == octet) from octets)
place_from octet [] from = tt
place_from octet (o ∷ octets) from = place_first octet o octets from (o == octet) refl (place_from octet octets (from + 1))

pub place_at : (octet : ℕ) (octets : List ℕ) (r : Option ℕ) → r ≡ position (λ x. x == octet) octets → IsPlaceFrom octet octets 0 r
place_at octet octets r is = subst (λ (x : Option ℕ). IsPlaceFrom octet octets 0 x) (sym (is ∙ position_from-zero (λ x. x == octet) octets)) (place_from octet octets 0)

-- ---- lines

-- a split has at least one part
pub record HasPart (parts : List (List ℕ)) : Type 0 where
  pub part : List ℕ
  pub parts' : List (List ℕ)
  pub is : parts ≡ part ∷ parts'

onto_part : (o : ℕ) (parts : List (List ℕ)) → HasPart parts → HasPart (onto_first o parts)
onto_part o parts has = record { part = o ∷ has.part; parts' = has.parts'; is = ap (onto_first o) has.is }

part_first : (b : Bool) (o : ℕ) (parts : List (List ℕ)) → HasPart parts → HasPart (cond b ([] ∷ parts) (onto_first o parts))
part_first true o parts has = record { part = []; parts' = parts; is = refl }
part_first false o parts has = onto_part o parts has

split_part : (octet : ℕ) (octets : List ℕ) → HasPart (slice_split (λ o. o == octet) octets)
split_part octet [] = record { part = []; parts' = []; is = refl }
split_part octet (o ∷ octets) = part_first (o == octet) o (slice_split (λ x. x == octet) octets) (split_part octet octets)

without_last_first : (line : List ℕ) (parts : List (List ℕ)) → HasPart parts → without_last (line ∷ parts) ≡ line ∷ without_last parts
without_last_first line parts has = ap (λ (x : List (List ℕ)). without_last (line ∷ x)) has.is ∙ ap (λ (x : List (List ℕ)). line ∷ without_last x) (sym has.is)

abbrev is_end : ℕ → Bool
is_end o = o == 10

pub lines_first : (text line rest : List ℕ) → IsSplitAt 10 text line rest → lines_of text ≡ strip_carriage_return line ∷ lines_of rest
lines_first text line rest split =
    let parts : slice_split is_end text ≡ line ∷ slice_split is_end rest = ap (slice_split is_end) split.0 ∙ slice_split_at is_end line 10 rest (All-from_recursion _ line split.1) refl in
    ap (λ (x : List (List ℕ)). map strip_carriage_return (without_last x)) parts ∙ ap (map strip_carriage_return) (without_last_first line (slice_split is_end rest) (split_part 10 rest))

some_line : (text : List ℕ) → 0 < length text → without_last (text ∷ []) ≡ text ∷ []
some_line [] some = absurd (omega (arith, some))
some_line (o ∷ text) some = refl

pub lines_last : (text : List ℕ) → 0 < length text → Lacks 10 text → lines_of text ≡ strip_carriage_return text ∷ []
lines_last text some lacks =
    let parts : slice_split is_end text ≡ text ∷ [] = slice_split_none is_end text (All-from_recursion _ text lacks) in
    ap (λ (x : List (List ℕ)). map strip_carriage_return (without_last x)) parts ∙ ap (map strip_carriage_return) (some_line text some)

-- ---- hex lines

same_is : (octet o : ℕ) → o ≡ octet → (o == octet) ≡ true
same_is octet o e = eq-eqb o octet e

digit_not : (o : ℕ) (b : Bool) → (o == 32) ≡ b → is_hex_digit o ≡ true → (o == 32) ≡ false
digit_not o true same digit = absurd (cc (sym digit ∙ ap is_hex_digit (eqb-true o 32 same)))
digit_not o false other digit = other

digits_lack : (digits : List ℕ) → AllByRecursion (λ o. is_hex_digit o ≡ true) digits → Lacks 32 digits
digits_lack [] all = tt
digits_lack (o ∷ digits) all = (digit_not o (o == 32) refl all.0, digits_lack digits all.1)

-- no digit is a space
no_space : (digits octets : List ℕ) → decode_of digits ≡ Ok octets → Lacks 32 digits
no_space digits octets e = digits_lack digits (recursion_from_All _ digits (decode_of-ok digits octets e).1)

not_lacking : (octet : ℕ) (front back : List ℕ) → Lacks octet (front ++ octet ∷ back) → ⊥
not_lacking octet [] back lacks = absurd (cc (lacks.0, same_is octet octet refl))
not_lacking octet (o ∷ front) back lacks = not_lacking octet front back lacks.1

-- the first place of an octet is one
pub one_split : (octet : ℕ) (front other back rest : List ℕ) → Lacks octet front → Lacks octet other → front ++ octet ∷ back ≡ other ++ octet ∷ rest → (front ≡ other) × (back ≡ rest)
one_split octet [] [] back rest a b e = (refl, cc)
one_split octet [] (o ∷ other) back rest a b e = absurd (cc (b.0, same_is octet o (cc)))
one_split octet (o ∷ front) [] back rest a b e = absurd (cc (a.0, same_is octet o (cc)))
one_split octet (o ∷ front) (q ∷ other) back rest a b e =
    let heads : o ≡ q = cc in
    let tails : front ++ octet ∷ back ≡ other ++ octet ∷ rest = cc in
    let more = one_split octet front other back rest a.1 b.1 tails in
    let first = more.0 in
    (cc, more.1)

word_lacks : (kind : Kind) → Lacks 32 (kind_word kind)
word_lacks Elements = (refl, (refl, (refl, (refl, (refl, (refl, (refl, (refl, tt))))))))
word_lacks Action = (refl, (refl, (refl, (refl, (refl, (refl, tt))))))
word_lacks AssocAsk = (refl, (refl, (refl, (refl, (refl, (refl, (refl, (refl, (refl, tt)))))))))
word_lacks AssocReply = (refl, (refl, (refl, (refl, (refl, (refl, (refl, (refl, (refl, (refl, (refl, tt)))))))))))
word_lacks Frame = (refl, (refl, (refl, (refl, (refl, tt)))))

-- the words have five lengths
kind_of_length : ℕ → Kind
kind_of_length n = cond (n == 8) Elements (cond (n == 6) Action (cond (n == 9) AssocAsk (cond (n == 11) AssocReply Frame)))

length_tells : (kind : Kind) → kind_of_length (length (kind_word kind)) ≡ kind
unfolding kind_of_length
length_tells Elements = refl
length_tells Action = refl
length_tells AssocAsk = refl
length_tells AssocReply = refl
length_tells Frame = refl

one_kind : (a b : Kind) → kind_word a ≡ kind_word b → a ≡ b
one_kind a b e = sym (length_tells a) ∙ ap (λ (word : List ℕ). kind_of_length (length word)) e ∙ length_tells b

-- a reading of a line with a space is by its word
pub record IsWordReading (word digits : List ℕ) (kind : Kind) (octets : List ℕ) : Type 0 where
  pub same_word : word ≡ kind_word kind
  pub decoded : decode_of digits ≡ Ok octets

reads_by_word : (line word digits : List ℕ) (kind : Kind) (octets more : List ℕ) → IsSplitAt 32 line word digits → IsKindLine line kind more → decode_of more ≡ Ok octets → IsWordReading word digits kind octets
reads_by_word line word digits kind octets more split (inl bare) decoded = absurd (not_lacking 32 word digits (subst (Lacks 32) (sym bare.1 ∙ split.0) (no_space more octets decoded)))
reads_by_word line word digits kind octets more split (inr worded) decoded =
    let one = one_split 32 word (kind_word kind) digits more split.1 (word_lacks kind) (sym split.0 ∙ worded) in
    record { same_word = one.0; decoded = ap decode_of one.1 ∙ decoded }

pub only_by_word : (line word digits : List ℕ) (kind : Kind) → IsSplitAt 32 line word digits → word ≡ kind_word kind → IsOnlyReading line kind digits
only_by_word line word digits kind split same other octets (more, is_line, decoded) =
    let reading = reads_by_word line word digits other octets more split is_line decoded in
    (one_kind other kind (sym reading.same_word ∙ same), reading.decoded)

pub none_by_word : (line word digits : List ℕ) → IsSplitAt 32 line word digits → ((kind : Kind) → word ≡ kind_word kind → ⊥) → (kind : Kind) (octets : List ℕ) → IsHexLine line kind octets → ⊥
none_by_word line word digits split unknown kind octets (more, is_line, decoded) = unknown kind (reads_by_word line word digits kind octets more split is_line decoded).same_word

bare_reading : (line : List ℕ) (kind : Kind) (octets more : List ℕ) → Lacks 32 line → IsKindLine line kind more → decode_of more ≡ Ok octets → (kind ≡ Elements) × (decode_of line ≡ Ok octets)
bare_reading line kind octets more lacks (inl bare) decoded = (bare.0, ap decode_of bare.1 ∙ decoded)
bare_reading line kind octets more lacks (inr worded) decoded = absurd (not_lacking 32 (kind_word kind) more (subst (Lacks 32) worded lacks))

pub only_bare : (line : List ℕ) → Lacks 32 line → IsOnlyReading line Elements line
only_bare line lacks other octets (more, is_line, decoded) = bare_reading line other octets more lacks is_line decoded

-- what has another error isn't read
pub not_read : (line digits : List ℕ) (kind : Kind) (e : FromHexError) → IsOnlyReading line kind digits → decode_of digits ≡ Err e → (other : Kind) (octets : List ℕ) → IsHexLine line other octets → ⊥
not_read line digits kind e only failed other octets reading = absurd (cc ((only other octets reading).1, failed))

-- room for half as many octets as there are digits is the room that they want
same_decoding : (digits : List ℕ) → decode_sized digits (length digits / 2) ≡ decode_of digits
same_decoding digits =
    elim (parity (length digits)) [
      | inl even ↦ decode_sized-twice digits (length digits / 2) (omega arith)
      | inr odd ↦ decode_sized-odd digits (length digits / 2) odd ∙ sym (decode_of-odd digits odd)
    ]

abbrev IsDecodedTo : Result (List ℕ) FromHexError → Result Unit FromHexError → List ℕ → Type 0
IsDecodedTo read answer octets = MatchResult read (λ bytes. (answer ≡ Ok tt) × (octets ≡ bytes)) (λ e. answer ≡ Err e)

is_failed : (read : Result (List ℕ) FromHexError) (answer : Result Unit FromHexError) (octets : List ℕ) (e : FromHexError) → IsDecodedTo read answer octets → answer ≡ Err e → read ≡ Err e
is_failed (Ok bytes) answer octets e decoded err = absurd (cc (decoded.0, err))
is_failed (Err d) answer octets e failed err = let same : d ≡ e = same_error d e (sym failed ∙ err) in ap err_octets same

pub error_of_digits : (digits octets : List ℕ) (room : ℕ) (answer : Result Unit FromHexError) (e : FromHexError) → room ≡ length digits / 2 → IsDecodedTo (decode_sized digits room) answer octets → answer ≡ Err e → decode_of digits ≡ Err e
error_of_digits digits octets room answer e half decoded err =
    sym (same_decoding digits) ∙ ap (decode_sized digits) (sym half) ∙ is_failed (decode_sized digits room) answer octets e decoded err

pub not_hex : (line digits : List ℕ) (kind : Kind) (e : FromHexError) → IsOnlyReading line kind digits → decode_of digits ≡ Err e → IsNoHexLine line
not_hex line digits kind e only failed = not_read line digits kind e only failed

pub few_octets : (digits octets : List ℕ) → decode_of digits ≡ Ok octets → length digits ≡ 2 * length octets
few_octets digits octets e = (decode_of-ok digits octets e).2

-- ---- one reading of a line

bare_or_worded : (line : List ℕ) (kind : Kind) (octets digits : List ℕ) → IsKindLine line kind digits → decode_of digits ≡ Ok octets → IsOnlyReading line kind digits
bare_or_worded line kind octets digits (inl bare) decoded =
    let lacks : Lacks 32 line = subst (Lacks 32) (sym bare.1) (no_space digits octets decoded) in
    λ other more reading.
    let only = only_bare line lacks other more reading in
    (only.0 ∙ sym bare.0, ap decode_of (sym bare.1) ∙ only.1)
bare_or_worded line kind octets digits (inr worded) decoded = only_by_word line (kind_word kind) digits kind (worded, word_lacks kind) refl

ok_same : (a b : List ℕ) → ok_octets a ≡ ok_octets b → a ≡ b
ok_same a b e = cc

-- a hex line has one kind and one list of octets
pub one_hex_line : (line : List ℕ) (kind other : Kind) (octets more : List ℕ) → IsHexLine line kind octets → IsHexLine line other more → (kind ≡ other) × (octets ≡ more)
one_hex_line line kind other octets more (digits, is_line, decoded) reading =
    let only = bare_or_worded line kind octets digits is_line decoded other more reading in
    (sym only.0, ok_same octets more (sym decoded ∙ only.1))

-- ---- each line is read

-- the line is a hex line, or none
abbrev pub IsRead : List ℕ → Type 0
IsRead line = ((kind : Kind) × (octets : List ℕ) × IsHexLine line kind octets) ⊎ IsNoHexLine line

by_digits : (line : List ℕ) (kind : Kind) (digits : List ℕ) (r : Result (List ℕ) FromHexError) → decode_of digits ≡ r → IsKindLine line kind digits → IsOnlyReading line kind digits → IsRead line
by_digits line kind digits (Ok octets) decoded is only = inl (kind, octets, (digits, is, decoded))
by_digits line kind digits (Err e) failed is only = inr (not_hex line digits kind e only failed)

-- a word of a kind has the length of that kind's word
by_word : (line word digits : List ℕ) (kind : Kind) (same : Bool) → bytes_eq word (kind_word kind) ≡ same → kind ≡ kind_of_length (length word) → IsSplitAt 32 line word digits → IsRead line
by_word line word digits kind true same is split =
    let worded = (bytes_eq-Decides word (kind_word kind)).0 same in
    by_digits line kind digits (decode_of digits) refl (inr (split.0 ∙ ap (λ (x : List ℕ). x ++ 32 ∷ digits) worded)) (only_by_word line word digits kind split worded)
by_word line word digits kind false other is split =
    let unknown : (k : Kind) → word ≡ kind_word k → ⊥ = λ k worded.
    let as_long : kind ≡ k = is ∙ ap (λ (x : List ℕ). kind_of_length (length x)) worded ∙ length_tells k in
    absurd (cc (other, (bytes_eq-Decides word (kind_word kind)).1 (worded ∙ ap kind_word (sym as_long)))) in
    inr (none_by_word line word digits split unknown)

by_place : (line : List ℕ) (r : Option ℕ) → IsPlaceFrom 32 line 0 r → IsRead line
by_place line None lacks = by_digits line Elements line (decode_of line) refl (inl (refl, refl)) (only_bare line lacks)
by_place line (Some place) (k, counted, is) =
    let kind = kind_of_length (length is.front) in
    by_word line is.front is.back kind (bytes_eq is.front (kind_word kind)) refl refl is.split

pub is_read : (line : List ℕ) → IsRead line
is_read line = by_place line (position_from (λ x. x == 32) 0 line) (place_from 32 line 0)
