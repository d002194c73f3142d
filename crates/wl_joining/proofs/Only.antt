-- The one Basic Multi-Link element of a list, and its MLD address.
use Rattle.std.proofs.Common.{◌≡◌, ℕ, zero, suc, ◌+◌, ◌<◌, ◌≤◌, Bool, true, false, cond, List, [], ◌∷◌, length, get_or, Some, None, Result, Ok, Err, refl, sym, ap, subst, ◌∙◌, arith}
use Rattle.std.specs.Prelude.{count_by, slice_get, nat_lt}
use Rattle.std.specs.List.{position, position_or_len}
use Rattle.std.proofs.lemmas.List.Quantifiers.{position-Some}
use Rattle.std.proofs.lemmas.List.Sums.{sum_by-cons, fails_before_first}
use Rattle.std.proofs.lemmas.Option.{slice_get_read, slice_get_within, get_or_from_slice_get}
use Rattle.std.proofs.lemmas.Bool.{ltb-false}
use Rattle.wl_elem.specs.declared.fault.Refusal.{Refusal}
use Rattle.wl_elem.specs.Element.{ElementValue}
use Rattle.wl_mle.specs.declared.basic.Basic.{Basic}
use Rattle.wl_mle.specs.declared.multi_link.MultiLink.{MultiLink}
use Rattle.wl_mle.specs.declared.multi_link.MultiLink.TheVariants as elements
use Rattle.wl_mle.specs.MultiLink.{MlOf, ReadAs}
use Rattle.wl_assoc.specs.Profiles.{is_basic, IsOnlyBasic}
use Rattle.wl_joining.specs.Joining.{HasMld}
use Rattle.wl_joining.specs.Reading.{mld_in, MldAs}

-- ---- the element

pub found_is : (list : List ElementValue) (i : ℕ) (e : ElementValue) → count_by is_basic list ≡ 1 → position is_basic list ≡ Some i → e ≡ get_or list i e → IsOnlyBasic list i e
found_is list i e counted at same =
    let found = position-Some is_basic list i e at in
    record { counted = counted; there = slice_get_read list (length list) i e refl found.0 same; basic = ap is_basic same ∙ found.1 }

at_first : {X : Type 0} (p : X → Bool) (x : X) (xs : List X) (b : Bool) → p x ≡ b → count_by p (x ∷ xs) ≡ cond b 1 0 + count_by p xs
at_first p x xs b e = sum_by-cons (λ y. cond (p y) 1 0) x xs ∙ ap (λ (v : Bool). cond v 1 0 + count_by p xs) e

is_counted : {X : Type 0} (p : X → Bool) (xs : List X) (i : ℕ) (x : X) → slice_get xs i ≡ Some x → p x ≡ true → 1 ≤ count_by p xs
is_counted p [] i x there is = absurd (cc there)
is_counted p (y ∷ ys) zero x there is =
    let same : y ≡ x = cc in
    omega (arith, at_first p y ys true (ap p same ∙ is))
is_counted p (y ∷ ys) (suc i) x there is = omega (arith, at_first p y ys (p y) refl, is_counted p ys i x there is)

-- two that pass, of which there is one, are the same
one_passing : {X : Type 0} (p : X → Bool) (xs : List X) (i j : ℕ) (x y : X) → count_by p xs ≡ 1 → slice_get xs i ≡ Some x → p x ≡ true → slice_get xs j ≡ Some y → p y ≡ true → x ≡ y
one_passing p [] i j x y counted there is here also = absurd (cc there)
one_passing p (z ∷ zs) zero zero x y counted there is here also = cc
one_passing p (z ∷ zs) zero (suc j) x y counted there is here also =
    let same : z ≡ x = cc in
    absurd (omega (arith, counted, at_first p z zs true (ap p same ∙ is), is_counted p zs j y here also))
one_passing p (z ∷ zs) (suc i) zero x y counted there is here also =
    let same : z ≡ y = cc in
    absurd (omega (arith, counted, at_first p z zs true (ap p same ∙ also), is_counted p zs i x there is))
one_passing p (z ∷ zs) (suc i) (suc j) x y counted there is here also =
    one_passing p zs i j x y (omega (arith, counted, at_first p z zs (p z) refl, is_counted p zs i x there is)) there is here also

pub one_basic : (list : List ElementValue) (i j : ℕ) (e f : ElementValue) → IsOnlyBasic list i e → IsOnlyBasic list j f → e ≡ f
one_basic list i j e f a b = one_passing is_basic list i j e f a.counted a.there a.basic b.there b.basic

-- none is found only where there is none

passed : (list : List ElementValue) (n i : ℕ) (e : ElementValue) → IsOnlyBasic list i e → position_or_len is_basic list ≡ n → length list ≤ n → ⊥
passed list n i e only at past =
    let within : i < length list = slice_get_within list i e only.there in
    let none = fails_before_first is_basic list i e (omega (arith, at)) in
    absurd (cc (none, ap is_basic (get_or_from_slice_get list i e e only.there), only.basic))

past : (n len : ℕ) (b : Bool) → nat_lt n len ≡ b → cond b (Some n) None ≡ None → len ≤ n
past n len true e none = absurd (cc none)
past n len false e none = ltb-false n len e

pub none_is : (list : List ElementValue) → position is_basic list ≡ None → (i : ℕ) (e : ElementValue) → IsOnlyBasic list i e → ⊥
none_is list none i e only =
    passed list (position_or_len is_basic list) i e only refl (past (position_or_len is_basic list) (length list) (nat_lt (position_or_len is_basic list) (length list)) refl none)

-- ---- its MLD address

abbrev pub MlReadOnce : Type 0
MlReadOnce = (body : List ℕ) (a b : Result MultiLink Refusal) → ReadAs body a → ReadAs body b → a ≡ b

one_value : MlReadOnce → (body : List ℕ) (a b : MultiLink) → MlOf a body → MlOf b body → a ≡ b
one_value once body a b p q = let a_value : Result MultiLink Refusal = Ok a in let b_value : Result MultiLink Refusal = Ok b in let e = once body a_value b_value p q in cc

-- the value of the one element is this
basic_is : MlReadOnce → (list : List ElementValue) (i : ℕ) (e : ElementValue) (value : MultiLink) (mld : List ℕ) → IsOnlyBasic list i e → MlOf value e.body → (has : HasMld list mld) → elements.Basic has.basic ≡ value
basic_is once list i e value mld only of has =
    let same = one_basic list has.index i has.element e has.only only in
    one_value once e.body (elements.Basic has.basic) value (subst (λ (x : ElementValue). MlOf (elements.Basic has.basic) x.body) same has.value) of

pub one_mld : MlReadOnce → (list : List ElementValue) (a b : List ℕ) → HasMld list a → HasMld list b → a ≡ b
one_mld once list a b p q =
    let is : elements.Basic p.basic ≡ elements.Basic q.basic = basic_is once list q.index q.element (elements.Basic q.basic) a q.only q.value p in
    let same : p.basic ≡ q.basic = cc in
    p.same ∙ ap (λ (x : Basic). x.common.mld) same ∙ sym q.same

pub mld_read : MlReadOnce → (list : List ElementValue) (i : ℕ) (e : ElementValue) (value : MultiLink) → IsOnlyBasic list i e → MlOf value e.body → MldAs list (mld_in value)
mld_read once list i e (elements.Basic b) only of = record { index = i; element = e; only = only; basic = b; value = of; same = refl }
mld_read once list i e (elements.Reconfiguration r) only of = λ mld has. absurd (cc (basic_is once list i e (elements.Reconfiguration r) mld only of has))
mld_read once list i e (elements.Other control body) only of = λ mld has. absurd (cc (basic_is once list i e (elements.Other control body) mld only of has))

-- the element has no value
pub mld_refused : (list : List ElementValue) (i : ℕ) (e : ElementValue) (refusal : Refusal) → IsOnlyBasic list i e → ((reading : Result MultiLink Refusal) → ReadAs e.body reading → reading ≡ Err refusal) → (mld : List ℕ) → HasMld list mld → ⊥
mld_refused list i e refusal only once mld has =
    let same = one_basic list has.index i has.element e has.only only in
    let value : Result MultiLink Refusal = Ok (elements.Basic has.basic) in
    absurd (cc (once value (subst (λ (x : ElementValue). MlOf (elements.Basic has.basic) x.body) same has.value)))
