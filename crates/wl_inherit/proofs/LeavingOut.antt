-- The marks of what a profile doesn't inherit, element by element.
use Rattle.std.proofs.Common.{◌≡◌, ℕ, zero, suc, ◌+◌, ◌<◌, Bool, true, false, not, ◌&&◌, ◌||◌, List, [], ◌∷◌, ◌++◌, length, take, get_or, refl, sym, ap, subst, ◌∙◌, arith, inl, inr}
use Rattle.std.specs.Prelude.{IsTrue}
use Rattle.std.proofs.lemmas.List.{append-nil}
use Rattle.std.proofs.lemmas.List.Folds.{list_any-append}
use Rattle.wl_elem.specs.declared.fault.Refusal.{Refusal}
use Rattle.wl_elem.specs.Answers.{in_inner}
use Rattle.wl_elem.specs.Element.{ElementValue}
use Rattle.wl_inherit.specs.declared.identities.Identities.{Identities}
use Rattle.wl_inherit.specs.declared.non_inheritance.NonInheritance.{NonInheritance}
use Rattle.wl_inherit.specs.NonInheritance.{NonOf, NonRefused}
use Rattle.wl_inherit.specs.Identity.{has_identity, has_any, is_non, never_inherited}
use Rattle.wl_inherit.specs.Inheritance.{lists, is_listed, is_inherited, Nons, IsDecoded, BadNon}
use Rattle.wl_inherit.specs.Marks.{Adds, AddsLists, LeavesOut, TakesOthers}
use Rattle.std.proofs.Math.Bool.{or-false}
use Rattle.wl_inherit.proofs.Marking.{IsTableOf}

pub Nons-append : (front back : List ElementValue) (nons others : List NonInheritance) → Nons front nons → Nons back others → Nons (front ++ back) (nons ++ others)
Nons-append [] back nons others e are = subst (λ (x : List NonInheritance). Nons back (x ++ others)) (sym e) are
Nons-append (e ∷ front) back nons others (inl (is, n, more, of, rest, same)) are =
    inl (is, n, more ++ others, of, Nons-append front back more others rest are, ap (λ (x : List NonInheritance). x ++ others) same)
Nons-append (e ∷ front) back nons others (inr (isnt, rest)) are = inr (isnt, Nons-append front back nons others rest are)

-- nothing is left out yet but what is never inherited
pub none_yet : (t : Identities) → IsTableOf never_inherited t → LeavesOut [] t
none_yet t table = record { nons = []; are = refl; marks = λ id ext shape. table id ext shape ∙ sym (or-false (never_inherited id ext)) }

by_own : (never listed own this : Bool) → ((never || (listed || own)) || this) ≡ (never || (listed || (own || (this || false))))
by_own true listed own this = refl
by_own false true own this = refl
by_own false false true this = refl
by_own false false false this = sym (or-false this)

by_lists : (never listed own this here : Bool) → (((never || (listed || own)) || this) || here) ≡ (never || ((listed || (here || false)) || (own || (this || false))))
by_lists true listed own this here = refl
by_lists false true own this here = refl
by_lists false false true this true = refl
by_lists false false true this false = refl
by_lists false false false true true = refl
by_lists false false false true false = refl
by_lists false false false false true = refl
by_lists false false false false false = refl

-- an element that isn't a Non-Inheritance element
pub own_more : (profile : List ElementValue) (e : ElementValue) (a b : Identities) → Adds e.id e.ext a b → is_non e.id e.ext ≡ false → LeavesOut profile a → LeavesOut (profile ++ e ∷ []) b
own_more profile e a b adds isnt so_far = record {
  nons = so_far.nons ++ [];
  are = Nons-append profile (e ∷ []) so_far.nons [] so_far.are (inr (isnt, refl));
  marks = λ id ext shape. adds.marks id ext ∙ ap (λ (x : Bool). x || has_identity id ext e) (so_far.marks id ext shape)
      ∙ by_own (never_inherited id ext) (is_listed so_far.nons id ext) (has_any id ext profile) (has_identity id ext e)
      ∙ ap (λ (x : List NonInheritance). never_inherited id ext || (is_listed x id ext || (has_any id ext profile || (has_identity id ext e || false)))) (sym (append-nil so_far.nons))
      ∙ ap (λ (x : Bool). never_inherited id ext || (is_listed (so_far.nons ++ []) id ext || x)) (sym (list_any-append (has_identity id ext) profile (e ∷ [])));
}

-- a Non-Inheritance element
pub non_more : (profile : List ElementValue) (e : ElementValue) (n : NonInheritance) (a b c : Identities) → Adds e.id e.ext a b → AddsLists n b c
    → IsTrue (is_non e.id e.ext) → NonOf n e.body → LeavesOut profile a → LeavesOut (profile ++ e ∷ []) c
non_more profile e n a b c adds added is of so_far = record {
  nons = so_far.nons ++ n ∷ [];
  are = Nons-append profile (e ∷ []) so_far.nons (n ∷ []) so_far.are (inl (is, n, [], of, refl, refl));
  marks = λ id ext shape. added.marks id ext shape
      ∙ ap (λ (x : Bool). x || lists n id ext) (adds.marks id ext ∙ ap (λ (x : Bool). x || has_identity id ext e) (so_far.marks id ext shape))
      ∙ by_lists (never_inherited id ext) (is_listed so_far.nons id ext) (has_any id ext profile) (has_identity id ext e) (lists n id ext)
      ∙ ap (λ (x : Bool). never_inherited id ext || (x || (has_any id ext profile || (has_identity id ext e || false)))) (sym (list_any-append (λ m. lists m id ext) so_far.nons (n ∷ [])))
      ∙ ap (λ (x : Bool). never_inherited id ext || (is_listed (so_far.nons ++ n ∷ []) id ext || x)) (sym (list_any-append (has_identity id ext) profile (e ∷ [])));
}

-- ---- a Non-Inheritance element without a value

decoded_front : (e : ElementValue) (rest : List ElementValue) (nons : List NonInheritance) → Nons (e ∷ rest) nons → IsDecoded e
decoded_front e rest nons (inl (is, n, others, of, more, same)) _ = (n, of)
decoded_front e rest nons (inr (isnt, more)) is = absurd (cc (is, isnt))

later : (e : ElementValue) (rest : List ElementValue) (nons : List NonInheritance) → Nons (e ∷ rest) nons → (others : List NonInheritance) × Nons rest others
later e rest nons (inl (is, n, others, of, more, same)) = (others, more)
later e rest nons (inr (isnt, more)) = (nons, more)

bad_from : (k i : ℕ) (profile : List ElementValue) (e : ElementValue) (nons : List NonInheritance) (inside : Refusal) → i < length profile → e ≡ get_or profile i e → Nons (take i profile) nons → IsTrue (is_non e.id e.ext) → NonRefused e.body inside
    → BadNon k profile (in_inner (k + i) inside)
bad_from k i [] e nons inside lt at are is bad = absurd (omega arith)
bad_from k zero (x ∷ profile) e nons inside lt at are is bad =
    let none : k + 0 ≡ k = omega arith in
    let is_x : IsTrue (is_non x.id x.ext) = subst (λ (y : ElementValue). IsTrue (is_non y.id y.ext)) at is in
    let bad_x : NonRefused x.body inside = subst (λ (y : ElementValue). NonRefused y.body inside) at bad in
    inl (is_x, inside, bad_x, ap (λ (n : ℕ). in_inner n inside) none)
bad_from k (suc i) (x ∷ profile) e nons inside lt at are is bad =
    let next : suc k + i ≡ k + suc i = omega arith in
    let more = later x (take i profile) nons are in
    inr (decoded_front x (take i profile) nons are, subst (λ (n : ℕ). BadNon (suc k) profile (in_inner n inside)) next (bad_from (suc k) i profile e more.0 inside (omega arith) at more.1 is bad))

pub bad_at : (i : ℕ) (profile : List ElementValue) (e : ElementValue) (nons : List NonInheritance) (inside : Refusal) → i < length profile → e ≡ get_or profile i e → Nons (take i profile) nons → IsTrue (is_non e.id e.ext) → NonRefused e.body inside
    → BadNon 0 profile (in_inner i inside)
bad_at i profile e nons inside lt at are is bad =
    let none : 0 + i ≡ i = omega arith in
    subst (λ (n : ℕ). BadNon 0 profile (in_inner n inside)) none (bad_from 0 i profile e nons inside lt at are is bad)

-- ---- what the marks leave

de_morgan : (never listed own : Bool) → (not never && not listed && not own) ≡ not (never || (listed || own))
de_morgan true listed own = refl
de_morgan false true own = refl
de_morgan false false own = refl

pub takes_inherited : (outer profile : List ElementValue) (t : Identities) → (left : LeavesOut profile t) → TakesOthers (is_inherited left.nons profile) outer t
takes_inherited outer profile t left = record {
  same = λ e shape _. de_morgan (never_inherited e.id e.ext) (is_listed left.nons e.id e.ext) (has_any e.id e.ext profile) ∙ ap not (sym (left.marks e.id e.ext shape));
}

pub takes_own : (profile : List ElementValue) (t : Identities) → IsTableOf is_non t → TakesOthers (λ e. not (is_non e.id e.ext)) profile t
takes_own profile t table = record { same = λ e shape _. ap not (sym (table e.id e.ext shape)) }
