-- Fields that are read are those that are written.
use Rattle.std.proofs.Common.{◌≡◌, ℕ, zero, suc, ◌+◌, ◌*◌, ◌/◌, ◌%◌, ◌^◌, ◌<◌, ◌≤◌, Bool, true, false, eqb, List, [], ◌∷◌, ◌++◌, length, take, Option, Some, None, refl, sym, ap, subst, ◌∙◌, append_assoc, arith}
use Rattle.std.specs.Prelude.{is_some}
use Rattle.std.specs.List.{AllByRecursion}
use Rattle.std.proofs.lemmas.List.{take_at, drop_at, take-append-drop, length-append, length-take-le, length-drop}
use Rattle.std.proofs.Math.Nat.{pow-suc}
use Rattle.wl_elem.specs.Bits.{bit}
use Rattle.wl_elem.specs.Octets.{number, octets_of}
use Rattle.wl_elem.specs.Fields.{field, Fits, width_if, field_at, after_field, number_in, total}
use Rattle.wl_elem.proofs.Octets.{IsOctets, IsOctets-drop, IsOctets-take}
use Rattle.wl_elem.proofs.Numbers.{length-octets_of, number-octets_of, octets_of-number, number-below, bit_of, test_of, bit_small}
use Rattle.wl_ttlm.specs.Ttlm.{presence, map_width, mappings, map_widths}
use Rattle.wl_ttlm.specs.Reading.{maps_at}

-- ---- a field

-- what is read as a field
pub record IsField (there : Bool) (width : ℕ) (octets : List ℕ) (value : Option ℕ) (rest : List ℕ) : Type 0 where
  pub parts : octets ≡ field width value ++ rest
  pub rest_is : IsOctets rest
  pub fits : Fits width value
  pub same : is_some value ≡ there
  pub left : width_if there width + length rest ≡ length octets

pub field_takes : (there : Bool) (width : ℕ) (octets : List ℕ) → IsOctets octets → width_if there width ≤ length octets → IsField there width octets (number_in (field_at there width octets)) (after_field there width octets)
field_takes true width octets is long =
    let front = take width octets in
    let len : length front ≡ width = length-take-le width octets long in
    let front_is : IsOctets front = IsOctets-take width octets is in
    let text : octets_of width (number front) ≡ front = subst (λ (n : ℕ). octets_of n (number front) ≡ front) len (octets_of-number front front_is) in
    record {
      parts = rw text (sym (take-append-drop width octets));
      rest_is = IsOctets-drop width octets is;
      fits = subst (λ (n : ℕ). number front < 256 ^ n) len (number-below front front_is);
      same = refl;
      left = omega (arith, length-drop width octets);
    }
field_takes false width octets is long = record { parts = refl; rest_is = is; fits = tt; same = refl; left = omega arith }

-- what was written is read again

pub field_again : (width : ℕ) (value : Option ℕ) (rest : List ℕ) → Fits width value → number_in (field_at (is_some value) width (field width value ++ rest)) ≡ value
field_again width (Some n) rest fits = rw (take_at (octets_of width n) rest width (length-octets_of width n), number-octets_of width n fits) refl
field_again width None rest fits = refl

pub after_again : (width : ℕ) (value : Option ℕ) (rest : List ℕ) → after_field (is_some value) width (field width value ++ rest) ≡ rest
after_again width (Some n) rest = drop_at (octets_of width n) rest width (length-octets_of width n)
after_again width None rest = refl

pub width_again : (width : ℕ) (value : Option ℕ) → length (field width value) ≡ width_if (is_some value) width
width_again width (Some n) = length-octets_of width n
width_again width None = refl

-- ---- the mappings

pub record AreMaps (count present : ℕ) (narrow : Bool) (octets : List ℕ) (read : List (Option ℕ) × List ℕ) : Type 0 where
  pub parts : octets ≡ mappings (map_width narrow) read.0 ++ read.1
  pub counted : length read.0 ≡ count
  pub fit : AllByRecursion (Fits (map_width narrow)) read.0
  pub same : presence read.0 ≡ present

pub maps_take : (count present : ℕ) (narrow : Bool) (octets : List ℕ) → present < 2 ^ count → IsOctets octets → total (map_widths count present (map_width narrow)) ≤ length octets
    → AreMaps count present narrow octets (maps_at count present (map_width narrow) octets)
unfolding maps_at map_widths
maps_take zero present narrow octets small is room = let one : 2 ^ 0 ≡ 1 = refl in record { parts = refl; counted = refl; fit = tt; same = omega arith }
maps_take (suc count) present narrow octets small is room =
    let width = map_width narrow in
    let there = eqb (present % 2) 1 in
    let power : 2 ^ suc count ≡ 2 ^ count * 2 = pow-suc 2 count in
    let one = field_takes there width octets is (omega (arith, room)) in
    let more = maps_take count (present / 2) narrow (after_field there width octets) (omega (arith, power)) one.rest_is (omega (arith, room, one.left)) in
    let rest = maps_at count (present / 2) width (after_field there width octets) in
    let low : bit (is_some (number_in (field_at there width octets))) ≡ present % 2 = ap bit one.same ∙ bit_of (present % 2) (omega arith) in
    record {
      parts = one.parts ∙ ap (λ (x : List ℕ). field width (number_in (field_at there width octets)) ++ x) more.parts ∙ sym (append_assoc (field width (number_in (field_at there width octets))) (mappings width rest.0) rest.1);
      counted = ap suc more.counted;
      fit = (one.fits, more.fit);
      same = omega (arith, low, more.same);
    }

pub maps_again : (maps : List (Option ℕ)) (width : ℕ) (rest : List ℕ) → AllByRecursion (Fits width) maps → maps_at (length maps) (presence maps) width (mappings width maps ++ rest) ≡ (maps, rest)
unfolding maps_at
maps_again [] width rest fit = refl
maps_again (map ∷ maps) width rest fit =
    let small = bit_small (is_some map) in
    let low : eqb ((bit (is_some map) + 2 * presence maps) % 2) 1 ≡ is_some map = test_of _ (is_some map) (omega arith) in
    let high : (bit (is_some map) + 2 * presence maps) / 2 ≡ presence maps = omega arith in
    rw (low, high, append_assoc (field width map) (mappings width maps) rest, field_again width map (mappings width maps ++ rest) fit.0, after_again width map (mappings width maps ++ rest), maps_again maps width rest fit.1) refl

pub widths_again : (maps : List (Option ℕ)) (width : ℕ) → total (map_widths (length maps) (presence maps) width) ≡ length (mappings width maps)
unfolding map_widths
widths_again [] width = refl
widths_again (map ∷ maps) width =
    let small = bit_small (is_some map) in
    let low : eqb ((bit (is_some map) + 2 * presence maps) % 2) 1 ≡ is_some map = test_of _ (is_some map) (omega arith) in
    let high : (bit (is_some map) + 2 * presence maps) / 2 ≡ presence maps = omega arith in
    rw (low, high) (omega (arith, widths_again maps width, width_again width map, length-append (field width map) (mappings width maps)))

pub none_of : (maps : List (Option ℕ)) → presence maps ≡ 0 → AllByRecursion (λ map. map ≡ None) maps
none_of [] e = tt
none_of (None ∷ maps) e = (refl, none_of maps (omega (arith, e)))
none_of (Some n ∷ maps) e = absurd (omega (arith, e))

pub none_present : (maps : List (Option ℕ)) → AllByRecursion (λ map. map ≡ None) maps → presence maps ≡ 0
none_present [] none = refl
none_present (None ∷ maps) none = omega (arith, none_present maps none.1)
none_present (Some n ∷ maps) none = absurd (cc (none.0))

pub presence_below : (n : ℕ) (maps : List (Option ℕ)) → length maps ≤ n → presence maps < 2 ^ n
presence_below zero [] le = let e : 2 ^ 0 ≡ 1 = refl in omega arith
presence_below zero (map ∷ maps) le = absurd (omega arith)
presence_below (suc n) [] le =
    let e : 2 ^ suc n ≡ 2 ^ n * 2 = pow-suc 2 n in
    let some : 0 < 2 ^ n = presence_below n [] (omega arith) in
    omega arith
presence_below (suc n) (map ∷ maps) le =
    let e : 2 ^ suc n ≡ 2 ^ n * 2 = pow-suc 2 n in
    let more : presence maps < 2 ^ n = presence_below n maps (omega arith) in
    let small = bit_small (is_some map) in
    omega arith
