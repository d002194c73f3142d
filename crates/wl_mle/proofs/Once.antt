-- A body is read in one way, and the reading is that of the layout.
use Rattle.std.proofs.Common.{◌≡◌, ℕ, suc, ◌-◌, ◌%◌, ◌<◌, Bool, true, false, eqb, ltb, eq-eqb, List, [], ◌∷◌, ◌++◌, length, drop, Option, Some, None, Result, Ok, Err, refl, sym, ap, subst, ◌∙◌, arith, length-append, inl, inr}
use Rattle.std.specs.Prelude.{map}
use Rattle.std.proofs.lemmas.Bool.{eqb-true, eqb-false, ne_eqb, le-ltb, ltb-false}
use Rattle.wl_elem.specs.declared.why.Why.TheVariants.{ControlShort}
use Rattle.wl_elem.specs.declared.fault.Refusal.{Refusal}
use Rattle.wl_elem.specs.declared.fault.Fault.{Fault}
use Rattle.wl_elem.specs.declared.fault.Fault.TheVariants as faults
use Rattle.wl_elem.specs.declared.kind.ListKind.TheVariants.{Subelements}
use Rattle.wl_elem.specs.declared.item.Item.{Item}
use Rattle.wl_elem.specs.Answers.{refusal_at, Answers, AnswersOnly}
use Rattle.wl_elem.specs.Octets.{octets_of}
use Rattle.wl_elem.specs.Items.{Items}
use Rattle.wl_mle.specs.declared.basic.Basic.{Basic}
use Rattle.wl_mle.specs.declared.reconf.Reconf.{Reconf}
use Rattle.wl_mle.specs.declared.multi_link.MultiLink.{MultiLink}
use Rattle.wl_mle.specs.declared.multi_link.MultiLink.TheVariants as elements
use Rattle.wl_mle.specs.Fields.{info, behind_info, word_of}
use Rattle.wl_mle.specs.Layout.{profile_slots, change_slots, basic_fields, reconf_fields, basic_control, reconf_control}
use Rattle.wl_mle.specs.MultiLink.{basic_sub, IsBasicSub, reconf_sub, IsReconfSub, IsBasic, IsReconf, IsMultiLink, subs_of, spelling, MlOf, subs_refusal, basic_fault, reconf_fault, CutRefused, ProfileRefused, IsRefused, RefusedAs, RefusedBody, ReadAs}
use Rattle.wl_mle.specs.Reading.{basic_of, common_at, reconf_at, basic_sub_at, reconf_sub_at, unless_refused, basic_with, reconf_with, ReadsBehind, ReadsType, ReadsWord, ReadsLong, ReadsBody}
use Rattle.wl_mle.proofs.Bodies.{left_within, behind_within, made_of}
use Rattle.wl_mle.proofs.CommonLayouts.{basic_word_of, basic_again, basic_read, reconf_word_of, reconf_again, reconf_read}
use Rattle.wl_mle.proofs.Infos.{behind_again}
use Rattle.wl_mle.proofs.Subelements.{CutsInOneWay, CutsOrRefuses, CutsOctets, SpellsOnce, are_subs}
use Rattle.wl_mle.proofs.SubLists.{list_passes, list_again, list_is, list_text, basic_sub_passes, basic_sub_again, basic_sub_is, basic_sub_text, reconf_sub_passes, reconf_sub_again, reconf_sub_is, reconf_sub_text}
use Rattle.wl_elem.proofs.Octets.{IsOctets, IsOctets-drop}
use Rattle.wl_mle.proofs.Words.{word_again, word_text, word_below}
use Rattle.wl_elem.proofs.Numbers.{length-octets_of}

-- ---- what is written is read so

reads_word : (word : ℕ) (rest : List ℕ) (reading : Result MultiLink Refusal) → word < 65536 → ReadsWord word rest reading → ReadsBody (octets_of 2 word ++ rest) reading
reads_word word rest reading lt h =
    let body = octets_of 2 word ++ rest in
    let long : ltb (length body) 2 ≡ false = le-ltb _ _ (omega (arith, length-append (octets_of 2 word) rest, length-octets_of 2 word)) in
    let same : word ≡ word_of body = sym (word_again word rest lt) in
    subst (λ (b : Bool). ReadsLong b body reading) (sym long) (subst (λ (n : ℕ). ReadsWord n rest reading) same h)

by_type : (first second : Bool) (word : ℕ) (rest : List ℕ) (reading : Result MultiLink Refusal) → eqb (word % 8) 0 ≡ first → eqb (word % 8) 2 ≡ second → ReadsType first second word rest reading → ReadsWord word rest reading
by_type first second word rest reading e f h =
    subst (λ (b : Bool). ReadsType b (eqb (word % 8) 2) word rest reading) (sym e) (subst (λ (b : Bool). ReadsType first b word rest reading) (sym f) h)

basic_value : (b : Basic) (subs : List ℕ) → IsBasic b
    → elements.Basic b ≡ elements.Basic (basic_of (basic_control b) (common_at (basic_control b) (info (basic_fields b.common) b.common.tail ++ subs)) (map basic_sub_at (map basic_sub b.subs)))
basic_value b subs is =
    let w = basic_word_of b is in
    let again = basic_again b is subs in
    let list = list_again basic_sub basic_sub_at IsBasicSub basic_sub_again b.subs is.subs in
    rw (again.1, list, w.spared) refl

reconf_value : (r : Reconf) (subs : List ℕ) → IsReconf r
    → elements.Reconfiguration r ≡ elements.Reconfiguration (reconf_at (reconf_control r) (info (reconf_fields r) r.tail ++ subs) (map reconf_sub_at (map reconf_sub r.subs)))
reconf_value r subs is =
    let again = reconf_again r is subs in
    let list = list_again reconf_sub reconf_sub_at IsReconfSub reconf_sub_again r.subs is.subs in
    rw list (ap (λ x. elements.Reconfiguration x) (sym again.1))

reads_value : (value : MultiLink) (subs : List ℕ) → IsMultiLink value → Items Subelements (subs_of value) subs → ReadsBody (spelling value subs) (Ok value)
reads_value (elements.Basic b) subs is cut =
    let word = basic_control b in
    let w = basic_word_of b is in
    let rest = info (basic_fields b.common) b.common.tail ++ subs in
    let list = map basic_sub b.subs in
    let again = basic_again b is subs in
    let passes = list_passes profile_slots basic_sub IsBasicSub basic_sub_passes b.subs 0 is.subs in
    let behind = subst (λ (x : List ℕ). Items Subelements list x) (sym (behind_again (basic_fields b.common) b.common.tail subs)) cut in
    let value : Ok (elements.Basic b) ≡ basic_with word rest list = rw passes (ap (λ (x : MultiLink). Ok x) (basic_value b subs is)) in
    reads_word word rest (Ok (elements.Basic b)) w.below
    (by_type true (eqb (word % 8) 2) word rest (Ok (elements.Basic b)) (eq-eqb (word % 8) 0 w.kind) refl
    (made_of (basic_fault word rest) (basic_with word rest) rest list (Ok (elements.Basic b)) again.0 behind value))
reads_value (elements.Reconfiguration r) subs is cut =
    let word = reconf_control r in
    let w = reconf_word_of r is in
    let rest = info (reconf_fields r) r.tail ++ subs in
    let list = map reconf_sub r.subs in
    let again = reconf_again r is subs in
    let passes = list_passes change_slots reconf_sub IsReconfSub reconf_sub_passes r.subs 0 is.subs in
    let behind = subst (λ (x : List ℕ). Items Subelements list x) (sym (behind_again (reconf_fields r) r.tail subs)) cut in
    let value : Ok (elements.Reconfiguration r) ≡ reconf_with word rest list = rw passes (ap (λ (x : MultiLink). Ok x) (reconf_value r subs is)) in
    reads_word word rest (Ok (elements.Reconfiguration r)) w.below
    (by_type false true word rest (Ok (elements.Reconfiguration r)) (ne_eqb (word % 8) 0 (λ e. omega (arith, e, w.kind))) (eq-eqb (word % 8) 2 w.kind)
    (made_of (reconf_fault word rest) (reconf_with word rest) rest list (Ok (elements.Reconfiguration r)) again.0 behind value))
reads_value (elements.Other control body) subs is cut =
    reads_word control body (Ok (elements.Other control body)) is.word
    (by_type false false control body (Ok (elements.Other control body)) (ne_eqb (control % 8) 0 is.not_basic) (ne_eqb (control % 8) 2 is.not_reconf) refl)

refused_behind : (found : Option Refusal) (slots : ℕ → List (Bool × ℕ)) (make : List Item → Result MultiLink Refusal) (rest : List ℕ) (refusal : Refusal)
    → ((list : List Item) → subs_refusal slots 0 list ≡ Some refusal → Err refusal ≡ make list) → IsRefused found slots rest refusal → ReadsBehind found make rest (Err refusal)
refused_behind (Some fault) slots make rest refusal made h = ap (λ (x : Refusal). Err x) h
refused_behind None slots make rest refusal made (inl cut) = inl (refusal, refl, cut)
refused_behind None slots make rest refusal made (inr profile) = inr (profile.list, profile.cut, made profile.list profile.first)

refused_type : (first second : Bool) (word : ℕ) (rest : List ℕ) (refusal : Refusal) → RefusedAs first second word rest refusal → ReadsType first second word rest (Err refusal)
refused_type true second word rest refusal h = refused_behind (basic_fault word rest) profile_slots (basic_with word rest) rest refusal (λ list e. rw e refl) h
refused_type false true word rest refusal h = refused_behind (reconf_fault word rest) change_slots (reconf_with word rest) rest refusal (λ list e. rw e refl) h
refused_type false false word rest refusal h = absurd h

refused_long : (few : Bool) (body : List ℕ) (refusal : Refusal) → RefusedBody few body refusal → ReadsLong few body (Err refusal)
refused_long true body refusal h = ap (λ (x : Refusal). Err x) h
refused_long false body refusal h = refused_type (eqb (word_of body % 8) 0) (eqb (word_of body % 8) 2) (word_of body) (drop 2 body) refusal h

-- each reading of the layout is what is read
pub reads : (body : List ℕ) (reading : Result MultiLink Refusal) → ReadAs body reading → ReadsBody body reading
reads body (Ok value) of = subst (λ (x : List ℕ). ReadsBody x (Ok value)) (sym of.text) (reads_value value of.subs of.is_value of.cut)
reads body (Err refusal) refused = refused_long (ltb (length body) 2) body refusal refused

-- ---- what is read so was written so, or is refused

abbrev AsBehind : Option Refusal → (ℕ → List (Bool × ℕ)) → List ℕ → List ℕ → Result MultiLink Refusal → Type 0
AsBehind found slots rest body (Ok value) = MlOf value body
AsBehind found slots rest body (Err refusal) = IsRefused found slots rest refusal

as_made : (slots : ℕ → List (Bool × ℕ)) (rest body : List ℕ) (list : List Item) (value : MultiLink) (reading : Result MultiLink Refusal) (refused : Option Refusal) → Items Subelements list (behind_info rest)
    → subs_refusal slots 0 list ≡ refused → reading ≡ unless_refused refused value → (subs_refusal slots 0 list ≡ None → MlOf value body) → AsBehind None slots rest body reading
as_made slots rest body list value reading (Some refusal) cut e same of =
    let profile : ProfileRefused slots rest refusal = record { list = list; cut = cut; first = e } in
    subst (λ (r : Result MultiLink Refusal). AsBehind None slots rest body r) (sym same) (inr profile)
as_made slots rest body list value reading None cut e same of = subst (λ (r : Result MultiLink Refusal). AsBehind None slots rest body r) (sym same) (of e)

as_behind : (found : Option Refusal) (slots : ℕ → List (Bool × ℕ)) (value : List Item → MultiLink) (rest body : List ℕ) (reading : Result MultiLink Refusal)
    → (found ≡ None → (list : List Item) → Items Subelements list (behind_info rest) → subs_refusal slots 0 list ≡ None → MlOf (value list) body)
    → ReadsBehind found (λ list. unless_refused (subs_refusal slots 0 list) (value list)) rest reading → AsBehind found slots rest body reading
as_behind (Some fault) slots value rest body reading of same = subst (λ (r : Result MultiLink Refusal). AsBehind (Some fault) slots rest body r) (sym same) refl
as_behind None slots value rest body reading of (inl (refusal, same, cut)) = subst (λ (r : Result MultiLink Refusal). AsBehind None slots rest body r) (sym same) (inl cut)
as_behind None slots value rest body reading of (inr (list, cut, same)) = as_made slots rest body list (value list) reading (subs_refusal slots 0 list) cut refl same (of refl list cut)

basic_is_of : CutsOctets → (word : ℕ) (rest body : List ℕ) → word < 65536 → word % 8 ≡ 0 → IsOctets rest → IsOctets (behind_info rest) → body ≡ octets_of 2 word ++ rest → basic_fault word rest ≡ None
    → (list : List Item) → Items Subelements list (behind_info rest) → subs_refusal profile_slots 0 list ≡ None → MlOf (elements.Basic (basic_of word (common_at word rest) (map basic_sub_at list))) body
basic_is_of law word rest body lt kind is behind_is text sound list cut none =
    let subs = are_subs law list (behind_info rest) behind_is cut in
    let each = list_is profile_slots basic_sub_at IsBasicSub basic_sub_is list 0 subs none in
    let same = list_text profile_slots basic_sub basic_sub_at basic_sub_text list 0 subs none in
    let read = basic_read word rest (map basic_sub_at list) lt kind is sound each in
    record { is_value = read.0; subs = behind_info rest; cut = subst (λ (x : List Item). Items Subelements x (behind_info rest)) (sym same) cut; text = text ∙ sym read.1 }

reconf_is_of : CutsOctets → (word : ℕ) (rest body : List ℕ) → word < 65536 → word % 8 ≡ 2 → IsOctets rest → IsOctets (behind_info rest) → body ≡ octets_of 2 word ++ rest → reconf_fault word rest ≡ None
    → (list : List Item) → Items Subelements list (behind_info rest) → subs_refusal change_slots 0 list ≡ None → MlOf (elements.Reconfiguration (reconf_at word rest (map reconf_sub_at list))) body
reconf_is_of law word rest body lt kind is behind_is text sound list cut none =
    let subs = are_subs law list (behind_info rest) behind_is cut in
    let each = list_is change_slots reconf_sub_at IsReconfSub reconf_sub_is list 0 subs none in
    let same = list_text change_slots reconf_sub reconf_sub_at reconf_sub_text list 0 subs none in
    let read = reconf_read word rest (map reconf_sub_at list) lt kind is sound each in
    record { is_value = read.0; subs = behind_info rest; cut = subst (λ (x : List Item). Items Subelements x (behind_info rest)) (sym same) cut; text = text ∙ sym read.1 }

abbrev AsType : Bool → Bool → ℕ → List ℕ → List ℕ → Result MultiLink Refusal → Type 0
AsType first second word rest body (Ok value) = MlOf value body
AsType first second word rest body (Err refusal) = RefusedAs first second word rest refusal

behind_octets : (rest : List ℕ) → IsOctets rest → IsOctets (behind_info rest)
behind_octets [] is = tt
behind_octets (len ∷ rest) is = IsOctets-drop (len - 1) rest is.1

of_basic : (second : Bool) (word : ℕ) (rest body : List ℕ) (reading : Result MultiLink Refusal) → AsBehind (basic_fault word rest) profile_slots rest body reading → AsType true second word rest body reading
of_basic second word rest body (Ok value) h = h
of_basic second word rest body (Err refusal) h = h

of_reconf : (word : ℕ) (rest body : List ℕ) (reading : Result MultiLink Refusal) → AsBehind (reconf_fault word rest) change_slots rest body reading → AsType false true word rest body reading
of_reconf word rest body (Ok value) h = h
of_reconf word rest body (Err refusal) h = h

as_type : CutsOctets → (first second : Bool) (word : ℕ) (rest body : List ℕ) (reading : Result MultiLink Refusal) → eqb (word % 8) 0 ≡ first → eqb (word % 8) 2 ≡ second → word < 65536 → IsOctets rest → body ≡ octets_of 2 word ++ rest
    → ReadsType first second word rest reading → AsType first second word rest body reading
as_type law true second word rest body reading e f lt is text h =
    of_basic second word rest body reading
    (as_behind (basic_fault word rest) profile_slots (λ list. elements.Basic (basic_of word (common_at word rest) (map basic_sub_at list))) rest body reading (basic_is_of law word rest body lt (eqb-true _ _ e) is (behind_octets rest is) text) h)
as_type law false true word rest body reading e f lt is text h =
    of_reconf word rest body reading
    (as_behind (reconf_fault word rest) change_slots (λ list. elements.Reconfiguration (reconf_at word rest (map reconf_sub_at list))) rest body reading (reconf_is_of law word rest body lt (eqb-true _ _ f) is (behind_octets rest is) text) h)
as_type law false false word rest body reading e f lt is text h =
    let other : MlOf (elements.Other word rest) body = record { is_value = record { word = lt; not_basic = eqb-false _ _ e; not_reconf = eqb-false _ _ f }; subs = []; cut = refl; text = text } in
    subst (λ (r : Result MultiLink Refusal). AsType false false word rest body r) (sym h) other

abbrev AsLong : Bool → List ℕ → Result MultiLink Refusal → Type 0
AsLong few body (Ok value) = MlOf value body
AsLong few body (Err refusal) = RefusedBody few body refusal

of_type : (body : List ℕ) (reading : Result MultiLink Refusal) → AsType (eqb (word_of body % 8) 0) (eqb (word_of body % 8) 2) (word_of body) (drop 2 body) body reading → AsLong false body reading
of_type body (Ok value) h = h
of_type body (Err refusal) h = h

as_long : CutsOctets → (few : Bool) (body : List ℕ) (reading : Result MultiLink Refusal) → ltb (length body) 2 ≡ few → IsOctets body → ReadsLong few body reading → AsLong few body reading
as_long law true body reading e is h = subst (λ (r : Result MultiLink Refusal). AsLong true body r) (sym h) refl
as_long law false body reading e is h =
    of_type body reading (as_type law _ _ (word_of body) (drop 2 body) body reading refl refl (word_below body is) (IsOctets-drop 2 body is) (word_text body (ltb-false _ _ e) is) h)

of_long : (body : List ℕ) (reading : Result MultiLink Refusal) → AsLong (ltb (length body) 2) body reading → ReadAs body reading
of_long body (Ok value) h = h
of_long body (Err refusal) h = h

-- what is read is a reading of the layout
pub is_reading : CutsOctets → (body : List ℕ) (reading : Result MultiLink Refusal) → IsOctets body → ReadsBody body reading → ReadAs body reading
is_reading law body reading is h = of_long body reading (as_long law (ltb (length body) 2) body reading refl is h)

-- ---- read once

one_cut_refusal : CutsInOneWay → (rest : List ℕ) (a b : Refusal) → CutRefused rest a → CutRefused rest b → a ≡ b
one_cut_refusal law rest a b p q =
    let same = law.refusal Subelements (behind_info rest) p.left q.left a.why b.why p.cut_off q.cut_off in
    let places : p.place ≡ q.place = omega (arith, p.split, q.split, same.0) in
    p.is_at ∙ ap (λ (n : ℕ). refusal_at n a.why) places ∙ ap (refusal_at q.place) same.1 ∙ sym q.is_at

one_behind : CutsInOneWay → (found : Option Refusal) (make : List Item → Result MultiLink Refusal) (rest : List ℕ) (a b : Result MultiLink Refusal) → ReadsBehind found make rest a → ReadsBehind found make rest b → a ≡ b
one_behind law (Some fault) make rest a b p q = p ∙ sym q
one_behind law None make rest a b (inl (x, e, cut)) (inl (y, f, other)) = e ∙ ap (λ (r : Refusal). Err r) (one_cut_refusal law rest x y cut other) ∙ sym f
one_behind law None make rest a b (inl (x, e, cut)) (inr (list, whole, f)) = absurd (law.not_both Subelements list (behind_info rest) cut.left x.why whole cut.cut_off)
one_behind law None make rest a b (inr (list, whole, e)) (inl (y, f, cut)) = absurd (law.not_both Subelements list (behind_info rest) cut.left y.why whole cut.cut_off)
one_behind law None make rest a b (inr (list, whole, e)) (inr (other, cut, f)) = e ∙ ap make (law.list Subelements list other (behind_info rest) whole cut) ∙ sym f

one_type : CutsInOneWay → (first second : Bool) (word : ℕ) (rest : List ℕ) (a b : Result MultiLink Refusal) → ReadsType first second word rest a → ReadsType first second word rest b → a ≡ b
one_type law true second word rest a b p q = one_behind law (basic_fault word rest) (basic_with word rest) rest a b p q
one_type law false true word rest a b p q = one_behind law (reconf_fault word rest) (reconf_with word rest) rest a b p q
one_type law false false word rest a b p q = p ∙ sym q

one_long : CutsInOneWay → (few : Bool) (body : List ℕ) (a b : Result MultiLink Refusal) → ReadsLong few body a → ReadsLong few body b → a ≡ b
one_long law true body a b p q = p ∙ sym q
one_long law false body a b p q = one_type law (eqb (word_of body % 8) 0) (eqb (word_of body % 8) 2) (word_of body) (drop 2 body) a b p q

pub one_reading : CutsInOneWay → (body : List ℕ) (a b : Result MultiLink Refusal) → ReadAs body a → ReadAs body b → a ≡ b
one_reading law body a b p q = one_long law (ltb (length body) 2) body a b (reads body a p) (reads body b q)

-- ---- read or refused

some_behind : CutsOrRefuses → (found : Option Refusal) (make : List Item → Result MultiLink Refusal) (rest : List ℕ) → IsOctets rest → (reading : Result MultiLink Refusal) × ReadsBehind found make rest reading
some_behind law (Some fault) make rest is = (Err fault, refl)
some_behind law None make rest is =
    elim (law Subelements (behind_info rest) (behind_octets rest is)) [
      | inl (list, cut) ↦ (make list, inr (list, cut, refl))
      | inr (left, why, cut_off) ↦
          let within = left_within (behind_info rest) left why cut_off in
          let refusal = refusal_at (suc (suc (length rest)) - left) why in
          let refused : CutRefused rest refusal = record { place = suc (suc (length rest)) - left; left = left; split = omega (arith, within, behind_within rest); cut_off = cut_off; is_at = refl } in
          (Err refusal, inl (refusal, refl, refused))
    ]

some_type : CutsOrRefuses → (first second : Bool) (word : ℕ) (rest : List ℕ) → IsOctets rest → (reading : Result MultiLink Refusal) × ReadsType first second word rest reading
some_type law true second word rest is = some_behind law (basic_fault word rest) (basic_with word rest) rest is
some_type law false true word rest is = some_behind law (reconf_fault word rest) (reconf_with word rest) rest is
some_type law false false word rest is = (Ok (elements.Other word rest), refl)

some_long : CutsOrRefuses → (few : Bool) (body : List ℕ) → IsOctets body → (reading : Result MultiLink Refusal) × ReadsLong few body reading
some_long law true body is = (Err (refusal_at 0 ControlShort), refl)
some_long law false body is = some_type law (eqb (word_of body % 8) 0) (eqb (word_of body % 8) 2) (word_of body) (drop 2 body) (IsOctets-drop 2 body is)

pub is_read_or_refused : CutsOrRefuses → CutsOctets → (body : List ℕ) → IsOctets body → (reading : Result MultiLink Refusal) × ReadAs body reading
is_read_or_refused all law body is =
    let found = some_long all (ltb (length body) 2) body is in
    (found.0, is_reading law body found.0 is found.1)

-- ---- spelled once

pub one_spelling : SpellsOnce → (value : MultiLink) (body other : List ℕ) → MlOf value body → MlOf value other → body ≡ other
one_spelling law value body other a b = a.text ∙ ap (spelling value) (law Subelements (subs_of value) a.subs b.subs a.cut b.cut) ∙ sym b.text

-- ---- answers

pub answered : CutsOctets → (body : List ℕ) (answer : Result MultiLink Fault) → IsOctets body → Answers answer (ReadsBody body) → Answers answer (ReadAs body)
answered law body (Ok value) is h = is_reading law body (Ok value) is h
answered law body (Err (faults.Refused refusal)) is h = is_reading law body (Err refusal) is h
answered law body (Err faults.Memory) is h = tt

-- octets are read in one way
abbrev pub ReadsOnce : Type 0
ReadsOnce = (body : List ℕ) (a b : Result MultiLink Refusal) → ReadAs body a → ReadAs body b → a ≡ b

pub answered_only : ReadsOnce → (body : List ℕ) (answer : Result MultiLink Fault) → Answers answer (ReadAs body) → (reading : Result MultiLink Refusal) → ReadAs body reading → AnswersOnly answer reading
answered_only once body (Ok value) h reading read = once body reading (Ok value) read h
answered_only once body (Err (faults.Refused refusal)) h reading read = once body reading (Err refusal) read h
answered_only once body (Err faults.Memory) h reading read = tt
