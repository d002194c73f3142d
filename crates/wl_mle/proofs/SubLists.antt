-- Lists of subelements: what is read is what was written, and what was written is read again.
use Rattle.std.proofs.Common.{◌≡◌, ℕ, suc, Bool, true, false, cond, eqb, List, [], ◌∷◌, Option, Some, None, drop, refl, sym, ap, ◌∙◌}
use Rattle.std.specs.Prelude.{map}
use Rattle.std.specs.List.{AllByRecursion}
use Rattle.std.proofs.lemmas.Bool.{eqb-true, eqb-false, ne_eqb}
use Rattle.wl_elem.specs.declared.fault.Refusal.{Refusal}
use Rattle.wl_elem.specs.declared.item.Item.{Item}
use Rattle.wl_mle.specs.declared.basic.BasicSub.{BasicSub}
use Rattle.wl_mle.specs.declared.basic.BasicSub.TheVariants as basics
use Rattle.wl_mle.specs.declared.reconf.ReconfSub.{ReconfSub}
use Rattle.wl_mle.specs.declared.reconf.ReconfSub.TheVariants as reconfs
use Rattle.wl_mle.specs.Fields.{word_of}
use Rattle.wl_mle.specs.Layout.{profile_slots, change_slots}
use Rattle.wl_mle.specs.MultiLink.{subelement, basic_sub, IsBasicSub, reconf_sub, IsReconfSub, profile_fault, sub_fault, first_refused, subs_refusal}
use Rattle.wl_mle.specs.Reading.{basic_sub_at, reconf_sub_at, profile_behind, change_behind}
use Rattle.wl_mle.proofs.Subelements.{IsSub}
use Rattle.wl_mle.proofs.ProfileLayouts.{profile_again, profile_read, change_again, change_read}

-- ---- lists, given their members

pub list_passes : {V : Type 0} (slots : ℕ → List (Bool × ℕ)) (to : V → Item) (Is : V → Type 0) → ((v : V) → Is v → sub_fault slots (to v) ≡ None)
    → (list : List V) (i : ℕ) → AllByRecursion Is list → subs_refusal slots i (map to list) ≡ None
list_passes slots to Is one [] i each = refl
list_passes slots to Is one (v ∷ list) i each = rw (one v each.0) (list_passes slots to Is one list (suc i) each.1)

pub list_again : {V : Type 0} (to : V → Item) (from : Item → V) (Is : V → Type 0) → ((v : V) → Is v → from (to v) ≡ v)
    → (list : List V) → AllByRecursion Is list → map from (map to list) ≡ list
list_again to from Is one [] each = refl
list_again {V} to from Is one (v ∷ list) each = ap (λ (x : V). x ∷ map from (map to list)) (one v each.0) ∙ ap (λ (xs : List V). v ∷ xs) (list_again to from Is one list each.1)

first_none : (sub : ℕ) (found : Option Refusal) (others : Option Refusal) → first_refused sub found others ≡ None → (found ≡ None) × (others ≡ None)
first_none sub (Some refusal) others h = absurd (cc h)
first_none sub None others h = (refl, h)

pub list_is : {V : Type 0} (slots : ℕ → List (Bool × ℕ)) (from : Item → V) (Is : V → Type 0) → ((s : Item) → IsSub s → sub_fault slots s ≡ None → Is (from s))
    → (list : List Item) (i : ℕ) → AllByRecursion IsSub list → subs_refusal slots i list ≡ None → AllByRecursion Is (map from list)
list_is slots from Is one [] i each none = tt
list_is slots from Is one (s ∷ list) i each none =
    let tests = first_none i (sub_fault slots s) (subs_refusal slots (suc i) list) none in
    (one s each.0 tests.0, list_is slots from Is one list (suc i) each.1 tests.1)

pub list_text : {V : Type 0} (slots : ℕ → List (Bool × ℕ)) (to : V → Item) (from : Item → V) → ((s : Item) → IsSub s → sub_fault slots s ≡ None → to (from s) ≡ s)
    → (list : List Item) (i : ℕ) → AllByRecursion IsSub list → subs_refusal slots i list ≡ None → map to (map from list) ≡ list
list_text slots to from one [] i each none = refl
list_text slots to from one (s ∷ list) i each none =
    let tests = first_none i (sub_fault slots s) (subs_refusal slots (suc i) list) none in
    ap (λ (x : Item). x ∷ map to (map from list)) (one s each.0 tests.0) ∙ ap (λ (xs : List Item). s ∷ xs) (list_text slots to from one list (suc i) each.1 tests.1)

with_id : (s : Item) (octets : List ℕ) → eqb s.id 0 ≡ true → octets ≡ s.octets → subelement 0 octets ≡ s
with_id s octets zeroed same = ap (subelement 0) same ∙ ap (λ (n : ℕ). subelement n s.octets) (sym (eqb-true _ _ zeroed))

-- ---- Basic

pub basic_sub_passes : (v : BasicSub) → IsBasicSub v → sub_fault profile_slots (basic_sub v) ≡ None
basic_sub_passes (basics.Profile p) is = (profile_again p is).0
basic_sub_passes (basics.Other id body) is = rw (ne_eqb id 0 is.0) refl

pub basic_sub_again : (v : BasicSub) → IsBasicSub v → basic_sub_at (basic_sub v) ≡ v
basic_sub_again (basics.Profile p) is = ap (λ x. basics.Profile x) (profile_again p is).1
basic_sub_again (basics.Other id body) is = rw (ne_eqb id 0 is.0) refl

abbrev basic_by : Bool → Item → BasicSub
basic_by zeroed s = cond zeroed (basics.Profile (profile_behind (word_of s.octets) (drop 2 s.octets))) (basics.Other s.id s.octets)

basic_is_by : (zeroed : Bool) (s : Item) → eqb s.id 0 ≡ zeroed → IsSub s → cond zeroed (profile_fault profile_slots s.octets) None ≡ None → IsBasicSub (basic_by zeroed s)
basic_is_by true s e is none = (profile_read s.octets is.octets none).0
basic_is_by false s e is none = (eqb-false _ _ e, is.fresh)

basic_text_by : (zeroed : Bool) (s : Item) → eqb s.id 0 ≡ zeroed → IsSub s → cond zeroed (profile_fault profile_slots s.octets) None ≡ None → basic_sub (basic_by zeroed s) ≡ s
basic_text_by true s e is none = with_id s _ e (profile_read s.octets is.octets none).1
basic_text_by false s e is none = refl

pub basic_sub_is : (s : Item) → IsSub s → sub_fault profile_slots s ≡ None → IsBasicSub (basic_sub_at s)
basic_sub_is s is none = basic_is_by (eqb s.id 0) s refl is none

pub basic_sub_text : (s : Item) → IsSub s → sub_fault profile_slots s ≡ None → basic_sub (basic_sub_at s) ≡ s
basic_sub_text s is none = basic_text_by (eqb s.id 0) s refl is none

-- ---- Reconfiguration

pub reconf_sub_passes : (v : ReconfSub) → IsReconfSub v → sub_fault change_slots (reconf_sub v) ≡ None
reconf_sub_passes (reconfs.Change c) is = (change_again c is).0
reconf_sub_passes (reconfs.Other id body) is = rw (ne_eqb id 0 is.0) refl

pub reconf_sub_again : (v : ReconfSub) → IsReconfSub v → reconf_sub_at (reconf_sub v) ≡ v
reconf_sub_again (reconfs.Change c) is = ap (λ x. reconfs.Change x) (change_again c is).1
reconf_sub_again (reconfs.Other id body) is = rw (ne_eqb id 0 is.0) refl

abbrev reconf_by : Bool → Item → ReconfSub
reconf_by zeroed s = cond zeroed (reconfs.Change (change_behind (word_of s.octets) (drop 2 s.octets))) (reconfs.Other s.id s.octets)

reconf_is_by : (zeroed : Bool) (s : Item) → eqb s.id 0 ≡ zeroed → IsSub s → cond zeroed (profile_fault change_slots s.octets) None ≡ None → IsReconfSub (reconf_by zeroed s)
reconf_is_by true s e is none = (change_read s.octets is.octets none).0
reconf_is_by false s e is none = (eqb-false _ _ e, is.fresh)

reconf_text_by : (zeroed : Bool) (s : Item) → eqb s.id 0 ≡ zeroed → IsSub s → cond zeroed (profile_fault change_slots s.octets) None ≡ None → reconf_sub (reconf_by zeroed s) ≡ s
reconf_text_by true s e is none = with_id s _ e (change_read s.octets is.octets none).1
reconf_text_by false s e is none = refl

pub reconf_sub_is : (s : Item) → IsSub s → sub_fault change_slots s ≡ None → IsReconfSub (reconf_sub_at s)
reconf_sub_is s is none = reconf_is_by (eqb s.id 0) s refl is none

pub reconf_sub_text : (s : Item) → IsSub s → sub_fault change_slots s ≡ None → reconf_sub (reconf_sub_at s) ≡ s
reconf_sub_text s is none = reconf_text_by (eqb s.id 0) s refl is none
