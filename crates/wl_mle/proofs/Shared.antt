-- What the four layouts share.
use Rattle.std.proofs.Common.{◌≡◌, ◌≢◌, ℕ, ◌+◌, ◌*◌, ◌%◌, ◌<◌, ◌≤◌, Bool, true, false, cond, eqb, ltb, List, [], ◌∷◌, ◌++◌, length, drop, get_or, Option, Some, None, refl, sym, ap, subst, ◌∙◌, arith, length-append}
use Rattle.std.specs.Prelude.{IfSome}
use Rattle.std.proofs.lemmas.Bool.{eqb-false, ne_eqb, le-ltb, ltb-false}
use Rattle.wl_elem.specs.declared.why.Why.{Why}
use Rattle.wl_elem.specs.declared.why.Why.TheVariants.{InfoShort, InfoLong, ReservedLink}
use Rattle.wl_elem.specs.declared.fault.Refusal.{Refusal}
use Rattle.wl_elem.specs.Answers.{refusal_at}
use Rattle.wl_elem.specs.Octets.{octets_of}
use Rattle.wl_mle.specs.Fields.{IsShort, known, info, info_text, need, info_fault, at_info, behind_info, word_of, area_of}
use Rattle.wl_mle.specs.MultiLink.{link_fault, word_fault, profile_fault, own_link_fault}
use Rattle.wl_mle.specs.Reading.{fields_at, after_fields, made_behind}
use Rattle.wl_mle.proofs.Infos.{IsFilled, Filled, AllIn, fields_filled, fields_in, fields_again, after_again, area_again, behind_again, sound_again, sound_read}
use Rattle.wl_elem.specs.Fields.{number_in}
use Rattle.wl_mle.proofs.Words.{word_again, word_text, word_below}
use Rattle.wl_elem.proofs.Octets.{IsOctets, IsOctets-drop}
use Rattle.wl_elem.proofs.Numbers.{length-octets_of}

pub filled_at : (there want : Bool) (width : ℕ) (f : Option (List ℕ)) → there ≡ want → IsFilled want width f → IsFilled there width f
filled_at there want width f e h = subst (λ (b : Bool). IsFilled b width f) (sym e) h

-- what is made of the fields that were written
pub read_again : {V : Type 0} (slots : List (Bool × ℕ)) (fields : List (Option (List ℕ))) (tail rest : List ℕ) (make : List (Option (List ℕ)) → List ℕ → List ℕ → V) → Filled slots fields
    → make (fields_at slots (area_of (info fields tail ++ rest))) (after_fields slots (area_of (info fields tail ++ rest))) (behind_info (info fields tail ++ rest)) ≡ make fields tail rest
read_again slots fields tail rest make h =
    let whole = info fields tail ++ rest in
    let area : area_of whole ≡ known fields ++ tail = area_again fields tail rest in
    let all : fields_at slots (area_of whole) ≡ fields = ap (fields_at slots) area ∙ fields_again slots fields tail h in
    let after : after_fields slots (area_of whole) ≡ tail = ap (after_fields slots) area ∙ after_again slots fields tail h in
    ap (λ (x : List (Option (List ℕ))). make x (after_fields slots (area_of whole)) (behind_info whole)) all
    ∙ ap (λ (x : List ℕ). make fields x (behind_info whole)) after
    ∙ ap (make fields tail) (behind_again fields tail rest)

-- ---- profiles

pub link_passes : (control : ℕ) (other : Option Refusal) → control % 16 ≢ 15 → other ≡ None → link_fault control other ≡ None
link_passes control other free none = rw (ne_eqb (control % 16) 15 free, none) refl

pub long_enough : (octets : List ℕ) (x y : Option Refusal) → 3 ≤ length octets → cond (ltb (length octets) 3) x y ≡ y
long_enough octets x y le = rw (le-ltb (length octets) 3 le) refl

-- what is written passes the tests
pub profile_passes : (slots : ℕ → List (Bool × ℕ)) (control : ℕ) (fields : List (Option (List ℕ))) (tail body : List ℕ) → control < 65536 → control % 16 ≢ 15 → Filled (slots control) fields
    → profile_fault slots (info_text control fields tail body) ≡ None
profile_passes slots control fields tail body lt free h =
    let rest = info fields tail ++ body in
    let len : 3 ≤ length (info_text control fields tail body) = omega (arith, length-append (octets_of 2 control) rest, length-octets_of 2 control) in
    let sound : info_fault InfoShort InfoLong (need (slots control)) rest ≡ None = sound_again InfoShort InfoLong (slots control) fields tail body h in
    long_enough (info_text control fields tail body) _ _ len
    ∙ ap (λ (n : ℕ). word_fault slots n rest) (word_again control rest lt)
    ∙ link_passes control _ free (ap (λ (o : Option Why). at_info o None) sound)

-- what passed them
pub record IsPassed (slots : ℕ → List (Bool × ℕ)) (octets : List ℕ) : Type 0 where
  pub long : 3 ≤ length octets
  pub free : word_of octets % 16 ≢ 15
  pub sound : info_fault InfoShort InfoLong (need (slots (word_of octets))) (drop 2 octets) ≡ None

not_long : (octets : List ℕ) (few : Bool) (x : Refusal) (y : Option Refusal) → ltb (length octets) 3 ≡ few → cond few (Some x) y ≡ None → (3 ≤ length octets) × (y ≡ None)
not_long octets true x y e h = absurd (cc h)
not_long octets false x y e h = (ltb-false _ _ e, h)

not_linked : (control : ℕ) (is : Bool) (x : Refusal) (y : Option Refusal) → eqb (control % 16) 15 ≡ is → cond is (Some x) y ≡ None → (control % 16 ≢ 15) × (y ≡ None)
not_linked control true x y e h = absurd (cc h)
not_linked control false x y e h = (eqb-false _ _ e, h)

not_behind : (found : Option Why) → at_info found None ≡ None → found ≡ None
not_behind None h = refl
not_behind (Some why) h = absurd (cc h)

pub passed : (slots : ℕ → List (Bool × ℕ)) (octets : List ℕ) → profile_fault slots octets ≡ None → IsPassed slots octets
passed slots octets h =
    let a = not_long octets (ltb (length octets) 3) (refusal_at 0 InfoShort) (word_fault slots (word_of octets) (drop 2 octets)) refl h in
    let b = not_linked (word_of octets) (eqb (word_of octets % 16) 15) (refusal_at 0 ReservedLink) (at_info (info_fault InfoShort InfoLong (need (slots (word_of octets))) (drop 2 octets)) None) refl a.1 in
    record { long = a.0; free = b.0; sound = not_behind (info_fault InfoShort InfoLong (need (slots (word_of octets))) (drop 2 octets)) b.1 }

-- a profile that is written is read again
pub sta_again : {V : Type 0} (slots : ℕ → List (Bool × ℕ)) (made : ℕ → List (Option (List ℕ)) → List ℕ → List ℕ → V) (control : ℕ) (fields : List (Option (List ℕ))) (tail body : List ℕ) (v : V)
    → control < 65536 → control % 16 ≢ 15 → Filled (slots control) fields → made control fields tail body ≡ v
    → (profile_fault slots (info_text control fields tail body) ≡ None) × (made_behind slots made (word_of (info_text control fields tail body)) (info fields tail ++ body) ≡ v)
sta_again slots made control fields tail body v lt free filled same =
    let rest = info fields tail ++ body in (
      profile_passes slots control fields tail body lt free filled,
      ap (λ (n : ℕ). made_behind slots made n rest) (word_again control rest lt) ∙ read_again (slots control) fields tail body (made control) filled ∙ same,
    )

-- a value that was read of a control word and these fields
pub record IsMade {V : Type 0} (Is : V → Type 0) (control : V → ℕ) (fields : V → List (Option (List ℕ))) (word : ℕ) (all : List (Option (List ℕ))) (v : V) : Type 0 where
  pub is : Is v
  pub control_is : control v ≡ word
  pub all_are : fields v ≡ all

-- a profile that is read is the one that was written
pub sta_read : {V : Type 0} (slots : ℕ → List (Bool × ℕ)) (made : ℕ → List (Option (List ℕ)) → List ℕ → List ℕ → V) (Is : V → Type 0) (control : V → ℕ) (fields : V → List (Option (List ℕ)))
    → ((word : ℕ) (area tail body : List ℕ) → word < 65536 → word % 16 ≢ 15 → Filled (slots word) (fields_at (slots word) area) → AllIn (fields_at (slots word) area) → IsShort (fields_at (slots word) area) tail
    → IsMade Is control fields word (fields_at (slots word) area) (made word (fields_at (slots word) area) tail body))
    → (octets : List ℕ) → IsOctets octets → profile_fault slots octets ≡ None
    → Is (made_behind slots made (word_of octets) (drop 2 octets))
    × (info_text (control (made_behind slots made (word_of octets) (drop 2 octets))) (fields (made_behind slots made (word_of octets) (drop 2 octets))) (after_fields (slots (word_of octets)) (area_of (drop 2 octets))) (behind_info (drop 2 octets)) ≡ octets)
sta_read slots made Is control fields from octets is none =
    let word = word_of octets in
    let rest = drop 2 octets in
    let test = passed slots octets none in
    let i = sound_read InfoShort InfoLong (slots word) rest test.sound in
    let area = area_of rest in
    let tail = after_fields (slots word) area in
    let body = behind_info rest in
    let rest_is = IsOctets-drop 2 octets is in
    let m = from word area tail body (word_below octets is) test.free (fields_filled (slots word) area i.enough) (fields_in (slots word) area (i.octets rest_is)) (i.short rest_is) in (
      m.is,
      ap (λ (n : ℕ). info_text n (fields (made_behind slots made word rest)) tail body) m.control_is
          ∙ ap (λ (fs : List (Option (List ℕ))). info_text word fs tail body) m.all_are
          ∙ ap (λ (x : List ℕ). octets_of 2 word ++ x) (sym i.text)
          ∙ sym (word_text octets (omega (arith, test.long)) is),
    )

-- ---- Link ID Info

link_at : (mld : List ℕ) (x : ℕ) (others : List (Option (List ℕ))) (tail subs : List ℕ) → length mld ≡ 6 → get_or (info (Some mld ∷ Some (x ∷ []) ∷ others) tail ++ subs) 7 0 ≡ x
link_at [] x others tail subs e = absurd (omega (arith, e))
link_at (a ∷ []) x others tail subs e = absurd (omega (arith, e))
link_at (a ∷ b ∷ []) x others tail subs e = absurd (omega (arith, e))
link_at (a ∷ b ∷ c ∷ []) x others tail subs e = absurd (omega (arith, e))
link_at (a ∷ b ∷ c ∷ d ∷ []) x others tail subs e = absurd (omega (arith, e))
link_at (a ∷ b ∷ c ∷ d ∷ f ∷ []) x others tail subs e = absurd (omega (arith, e))
link_at (a ∷ b ∷ c ∷ d ∷ f ∷ g ∷ []) x others tail subs e = refl
link_at (a ∷ b ∷ c ∷ d ∷ f ∷ g ∷ h ∷ more) x others tail subs e = absurd (omega (arith, e))

is_free : (x : ℕ) → (x + 256 * 0) % 16 ≢ 15 → eqb (x % 16) 15 ≡ false
is_free x h = ne_eqb (x % 16) 15 (λ e. h (omega (arith, e)))

pub free_again : (there : Bool) (mld : List ℕ) (f : Option (List ℕ)) (others : List (Option (List ℕ))) (tail subs : List ℕ) → length mld ≡ 6 → IsFilled there 1 f → IfSome (number_in f) (λ n. n % 16 ≢ 15)
    → own_link_fault there (get_or (info (Some mld ∷ f ∷ others) tail ++ subs) 7 0) ≡ None
free_again there mld None others tail subs len h free = rw h refl
free_again there mld (Some []) others tail subs len h free = absurd (omega (arith, h.1))
free_again there mld (Some (x ∷ [])) others tail subs len h free = rw (h.0, link_at mld x others tail subs len, is_free x free) refl
free_again there mld (Some (x ∷ y ∷ more)) others tail subs len h free = absurd (omega (arith, h.1))

unlinked : (reserved : Bool) (x : ℕ) → eqb (x % 16) 15 ≡ reserved → cond reserved (Some (refusal_at 9 ReservedLink)) None ≡ None → (x + 256 * 0) % 16 ≢ 15
unlinked true x e h = absurd (cc h)
unlinked false x e h = λ same. eqb-false _ _ e (omega (arith, same))

pub free_read : (there : Bool) (mld : List ℕ) (f : Option (List ℕ)) (others : List (Option (List ℕ))) (tail subs : List ℕ) → length mld ≡ 6 → IsFilled there 1 f
    → own_link_fault there (get_or (info (Some mld ∷ f ∷ others) tail ++ subs) 7 0) ≡ None → IfSome (number_in f) (λ n. n % 16 ≢ 15)
free_read there mld None others tail subs len h none = tt
free_read there mld (Some []) others tail subs len h none = absurd (omega (arith, h.1))
free_read there mld (Some (x ∷ [])) others tail subs len h none =
    unlinked (eqb (x % 16) 15) x refl (rw (h.0, link_at mld x others tail subs len) at none)
free_read there mld (Some (x ∷ y ∷ more)) others tail subs len h none = absurd (omega (arith, h.1))
