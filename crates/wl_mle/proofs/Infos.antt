-- An Info field that is read is the one that was written, and what was written is read again.
use Rattle.std.proofs.Common.{◌≡◌, ℕ, suc, ◌+◌, ◌-◌, ◌^◌, ◌<◌, ◌≤◌, Bool, true, false, cond, ltb, List, [], ◌∷◌, ◌++◌, length, take, drop, Option, Some, None, refl, sym, ap, subst, ◌∙◌, append_assoc, arith}
use Rattle.std.specs.Prelude.{is_some, IfSome}
use Rattle.std.proofs.lemmas.Bool.{ltb-false, le-ltb}
use Rattle.std.proofs.lemmas.List.{take_at, drop_at, take-append-drop, length-append, length-take}
use Rattle.std.proofs.Common.{length-drop}
use Rattle.wl_elem.specs.declared.why.Why.{Why}
use Rattle.wl_elem.specs.Octets.{number, octets_of}
use Rattle.wl_mle.specs.Fields.{known, info, need, info_fault, behind_info, IsShort, area_of}
use Rattle.wl_mle.specs.MultiLink.{IsAddress}
use Rattle.wl_mle.specs.Reading.{fields_at, after_fields}
use Rattle.wl_elem.specs.Fields.{number_field, Fits, number_in}
use Rattle.wl_elem.proofs.Octets.{IsOctets, IsOctets-drop, IsOctets-take}
use Rattle.wl_elem.proofs.Numbers.{length-octets_of, number-octets_of, octets_of-number, number-below}

-- ---- fields and slots

-- the field is there exactly where its slot says so, and has its width
abbrev pub IsFilled : Bool → ℕ → Option (List ℕ) → Type 0
IsFilled there width None = there ≡ false
IsFilled there width (Some octets) = (there ≡ true) × (length octets ≡ width)

abbrev pub Filled : List (Bool × ℕ) → List (Option (List ℕ)) → Type 0
Filled [] [] = Unit {0}
Filled [] (f ∷ fs) = ⊥
Filled (slot ∷ slots) [] = ⊥
Filled (slot ∷ slots) (f ∷ fs) = IsFilled slot.0 slot.1 f × Filled slots fs

pub need_known : (slots : List (Bool × ℕ)) (fields : List (Option (List ℕ))) → Filled slots fields → need slots ≡ length (known fields)
need_known [] [] h = refl
need_known [] (f ∷ fs) h = absurd h
need_known (slot ∷ slots) [] h = absurd h
need_known ((there, width) ∷ slots) (None ∷ fs) h = rw h.0 (omega (arith, need_known slots fs h.1))
need_known ((there, width) ∷ slots) (Some octets ∷ fs) h = rw h.0.0 (omega (arith, h.0.1, need_known slots fs h.1, length-append octets (known fs)))

pub fields_again : (slots : List (Bool × ℕ)) (fields : List (Option (List ℕ))) (rest : List ℕ) → Filled slots fields → fields_at slots (known fields ++ rest) ≡ fields
fields_again [] [] rest h = refl
fields_again [] (f ∷ fs) rest h = absurd h
fields_again (slot ∷ slots) [] rest h = absurd h
fields_again ((there, width) ∷ slots) (None ∷ fs) rest h = rw h.0 (ap (λ (x : List (Option (List ℕ))). None ∷ x) (fields_again slots fs rest h.1))
fields_again ((there, width) ∷ slots) (Some octets ∷ fs) rest h =
    rw (h.0.0, append_assoc octets (known fs) rest, take_at octets (known fs ++ rest) width h.0.1, drop_at octets (known fs ++ rest) width h.0.1)
    (ap (λ (x : List (Option (List ℕ))). Some octets ∷ x) (fields_again slots fs rest h.1))

pub after_again : (slots : List (Bool × ℕ)) (fields : List (Option (List ℕ))) (rest : List ℕ) → Filled slots fields → after_fields slots (known fields ++ rest) ≡ rest
after_again [] [] rest h = refl
after_again [] (f ∷ fs) rest h = absurd h
after_again (slot ∷ slots) [] rest h = absurd h
after_again ((there, width) ∷ slots) (None ∷ fs) rest h = rw h.0 (after_again slots fs rest h.1)
after_again ((there, width) ∷ slots) (Some octets ∷ fs) rest h =
    rw (h.0.0, append_assoc octets (known fs) rest, drop_at octets (known fs ++ rest) width h.0.1) (after_again slots fs rest h.1)

pub fields_filled : (slots : List (Bool × ℕ)) (octets : List ℕ) → need slots ≤ length octets → Filled slots (fields_at slots octets)
fields_filled [] octets le = tt
fields_filled ((true, width) ∷ slots) octets le =
    ((refl, omega (arith, length-take width octets)), fields_filled slots (drop width octets) (omega (arith, length-drop width octets)))
fields_filled ((false, width) ∷ slots) octets le = (refl, fields_filled slots octets (omega (arith, le)))

pub fields_text : (slots : List (Bool × ℕ)) (octets : List ℕ) → known (fields_at slots octets) ++ after_fields slots octets ≡ octets
fields_text [] octets = refl
fields_text ((true, width) ∷ slots) octets =
    append_assoc (take width octets) (known (fields_at slots (drop width octets))) (after_fields slots (drop width octets))
    ∙ ap (λ (x : List ℕ). take width octets ++ x) (fields_text slots (drop width octets)) ∙ take-append-drop width octets
fields_text ((false, width) ∷ slots) octets = fields_text slots octets

abbrev pub OctetsIn : Option (List ℕ) → Type 0
OctetsIn None = Unit {0}
OctetsIn (Some octets) = IsOctets octets

abbrev pub AllIn : List (Option (List ℕ)) → Type 0
AllIn [] = Unit {0}
AllIn (f ∷ fs) = OctetsIn f × AllIn fs

pub fields_in : (slots : List (Bool × ℕ)) (octets : List ℕ) → IsOctets octets → AllIn (fields_at slots octets)
fields_in [] octets is = tt
fields_in ((true, width) ∷ slots) octets is = (IsOctets-take width octets is, fields_in slots (drop width octets) (IsOctets-drop width octets is))
fields_in ((false, width) ∷ slots) octets is = (tt, fields_in slots octets is)

-- ---- one field

pub field_filled : (width : ℕ) (v : Option ℕ) → IsFilled (is_some v) width (number_field width v)
field_filled width None = refl
field_filled width (Some n) = (refl, length-octets_of width n)

pub mac_filled : (v : Option (List ℕ)) → IfSome v IsAddress → IsFilled (is_some v) 6 v
mac_filled None h = refl
mac_filled (Some octets) h = (refl, h)

pub number_again : (width : ℕ) (v : Option ℕ) → Fits width v → number_in (number_field width v) ≡ v
number_again width None fits = refl
number_again width (Some n) fits = ap (λ (x : ℕ). Some x) (number-octets_of width n fits)

-- a number that is read
pub record IsNumber (there : Bool) (width : ℕ) (f : Option (List ℕ)) : Type 0 where
  pub same : number_field width (number_in f) ≡ f
  pub fits : Fits width (number_in f)
  pub some : is_some (number_in f) ≡ there

pub number_read : (there : Bool) (width : ℕ) (f : Option (List ℕ)) → IsFilled there width f → OctetsIn f → IsNumber there width f
number_read there width None h is = record { same = refl; fits = tt; some = sym h }
number_read there width (Some octets) h is = record {
  same = ap (λ (x : List ℕ). Some x) (subst (λ (n : ℕ). octets_of n (number octets) ≡ octets) h.1 (octets_of-number octets is));
  fits = subst (λ (n : ℕ). number octets < 256 ^ n) h.1 (number-below octets is);
  some = sym h.0;
}

pub mac_some : (there : Bool) (f : Option (List ℕ)) → IsFilled there 6 f → is_some f ≡ there
mac_some there None h = sym h
mac_some there (Some octets) h = sym h.0

pub mac_read : (there : Bool) (f : Option (List ℕ)) → IsFilled there 6 f → IfSome f IsAddress
mac_read there None h = tt
mac_read there (Some octets) h = h.1

-- ---- Info fields

pub area_again : (fields : List (Option (List ℕ))) (tail rest : List ℕ) → area_of (info fields tail ++ rest) ≡ known fields ++ tail
area_again fields tail rest =
    let len : length (known fields ++ tail) ≡ suc (length (known fields) + length tail) - 1 = omega (arith, length-append (known fields) tail) in
    take_at (known fields ++ tail) rest (suc (length (known fields) + length tail) - 1) len

pub behind_again : (fields : List (Option (List ℕ))) (tail rest : List ℕ) → behind_info (info fields tail ++ rest) ≡ rest
behind_again fields tail rest =
    let len : length (known fields ++ tail) ≡ suc (length (known fields) + length tail) - 1 = omega (arith, length-append (known fields) tail) in
    drop_at (known fields ++ tail) rest (suc (length (known fields) + length tail) - 1) len

two_tests : {A : Type 0} (a b : Bool) (x y z : A) → a ≡ false → b ≡ false → cond a x (cond b y z) ≡ z
two_tests a b x y z p q = rw (p, q) refl

pub sound_again : (few many : Why) (slots : List (Bool × ℕ)) (fields : List (Option (List ℕ))) (tail rest : List ℕ) → Filled slots fields → info_fault few many (need slots) (info fields tail ++ rest) ≡ None
sound_again few many slots fields tail rest h =
    let len = suc (length (known fields) + length tail) in
    let after = (known fields ++ tail) ++ rest in
    let least = need_known slots fields h in
    two_tests (ltb len (suc (need slots))) (ltb (suc (length after)) len) _ _ _
    (le-ltb len (suc (need slots)) (omega (arith, least)))
    (le-ltb (suc (length after)) len (omega (arith, length-append (known fields ++ tail) rest, length-append (known fields) tail)))

pub none_failed : (a b : Bool) (few many : Why) → cond a (Some few) (cond b (Some many) None) ≡ None → (a ≡ false) × (b ≡ false)
none_failed true b few many e = absurd (cc e)
none_failed false true few many e = absurd (cc e)
none_failed false false few many e = (refl, refl)

-- what passed the tests
pub record IsInfo (slots : List (Bool × ℕ)) (rest : List ℕ) : Type 0 where
  pub enough : need slots ≤ length (area_of rest)
  pub text : rest ≡ info (fields_at slots (area_of rest)) (after_fields slots (area_of rest)) ++ behind_info rest
  pub short : IsOctets rest → IsShort (fields_at slots (area_of rest)) (after_fields slots (area_of rest))
  pub octets : IsOctets rest → IsOctets (area_of rest)

pub sound_read : (few many : Why) (slots : List (Bool × ℕ)) (rest : List ℕ) → info_fault few many (need slots) rest ≡ None → IsInfo slots rest
sound_read few many slots [] e = absurd (cc e)
sound_read few many slots (len ∷ after) e =
    let tests = none_failed (ltb len (suc (need slots))) (ltb (suc (length after)) len) few many e in
    let low : suc (need slots) ≤ len = ltb-false _ _ tests.0 in
    let high : len ≤ suc (length after) = ltb-false _ _ tests.1 in
    let area = take (len - 1) after in
    let counted : length area ≡ len - 1 = omega (arith, length-take (len - 1) after) in
    let fields = fields_at slots area in
    let tail = after_fields slots area in
    let parts : known fields ++ tail ≡ area = fields_text slots area in
    let both : suc (length (known fields) + length tail) ≡ len = omega (arith, length-append (known fields) tail, ap length parts, counted, low) in
    record {
      enough = omega (arith, counted, low);
      text = ap (λ (x : List ℕ). len ∷ x) (sym (take-append-drop (len - 1) after)) ∙ ap (λ (x : List ℕ). len ∷ (x ++ drop (len - 1) after)) (sym parts)
          ∙ ap (λ (n : ℕ). n ∷ ((known fields ++ tail) ++ drop (len - 1) after)) (sym both);
      short = λ is. let small : len < 256 = is.0 in omega (arith, both, small);
      octets = λ is. IsOctets-take (len - 1) after is.1;
    }
