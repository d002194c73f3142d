-- The marks of what is the same in the frame, element by element.
use Rattle.std.proofs.Common.{◌≡◌, ℕ, ◌+◌, ◌<◌, Bool, true, false, not, ◌&&◌, ◌||◌, List, [], length, take, get_or, Option, refl, sym, ap, ◌∙◌, inl, inr, ◌⊎◌}
use Rattle.std.specs.Prelude.{IsTrue}
use Rattle.std.proofs.lemmas.Bool.{and_right, and_left, or_cases, or_parts}
use Rattle.std.proofs.lemmas.List.Folds.{list_any_more}
use Rattle.wl_elem.specs.Element.{ElementValue, has_shape}
use Rattle.wl_inherit.specs.declared.identities.Identities.{Identities}
use Rattle.wl_inherit.specs.Identity.{has_identity, of_identity, has_any, never_inherited}
use Rattle.wl_inherit.specs.Marks.{is_marked, Adds}
use Rattle.wl_inherit.specs.Shrunk.{same_elements}
use Rattle.wl_inherit.proofs.Filters.{at_identity}
use Rattle.std.proofs.Math.Bool.{or-false, or-true}
use Rattle.wl_inherit.proofs.Marking.{or_assoc, IsTableOf}

-- whether an identity can be inherited and has the same elements in the frame
abbrev pub is_same : List ElementValue → List ElementValue → ℕ → Option ℕ → Bool
is_same outer full id ext = not (never_inherited id ext) && same_elements (of_identity id ext outer) (of_identity id ext full)

-- what was met of a list
pub record HasSeen (list : List ElementValue) (t : Identities) : Type 0 where
  pub marks : (id : ℕ) (ext : Option ℕ) → IsTrue (has_shape id ext) → is_marked t id ext ≡ (never_inherited id ext || has_any id ext list)

-- what was met and passes a test
pub record HasPassed (passes : ℕ → Option ℕ → Bool) (list : List ElementValue) (t : Identities) : Type 0 where
  pub marks : (id : ℕ) (ext : Option ℕ) → is_marked t id ext ≡ (has_any id ext list && passes id ext)

pub nothing_seen : (t : Identities) → IsTableOf never_inherited t → HasSeen [] t
nothing_seen t table = record { marks = λ id ext shape. table id ext shape ∙ sym (or-false (never_inherited id ext)) }

-- one element more of a list
abbrev at_more : List ElementValue → ℕ → ElementValue → ℕ → Option ℕ → Type 0
at_more list i e id ext = has_any id ext (take (i + 1) list) ≡ (has_any id ext (take i list) || has_identity id ext e)

any_more : (list : List ElementValue) (i : ℕ) (e : ElementValue) → i < length list → e ≡ get_or list i e → (id : ℕ) (ext : Option ℕ) → at_more list i e id ext
any_more list i e lt at id ext = list_any_more (has_identity id ext) list i e lt ∙ ap (λ (x : ElementValue). has_any id ext (take i list) || has_identity id ext x) (sym at)

-- its identity was met already
pub seen_still : (list : List ElementValue) (i : ℕ) (e : ElementValue) (t : Identities) → i < length list → e ≡ get_or list i e → IsTrue (has_shape e.id e.ext) → HasSeen (take i list) t → is_marked t e.id e.ext ≡ true → HasSeen (take (i + 1) list) t
seen_still list i e t lt at shape so_far met = record {
  marks = λ id ext fits. so_far.marks id ext fits ∙ by (has_identity id ext e) (never_inherited id ext) (has_any id ext (take i list)) (λ is. sym (so_far.marks id ext fits) ∙ sym (at_identity (is_marked t) id ext e is) ∙ met)
      ∙ ap (λ (x : Bool). never_inherited id ext || x) (sym (any_more list i e lt at id ext));
}
  where
    by : (this never before : Bool) → (this ≡ true → (never || before) ≡ true) → (never || before) ≡ (never || (before || this))
    by true never before h = h refl ∙ sym (ap (λ (x : Bool). never || x) (or-true before) ∙ or-true never)
    by false never before h = ap (λ (x : Bool). never || x) (sym (or-false before))

-- its identity is met first
pub seen_more : (list : List ElementValue) (i : ℕ) (e : ElementValue) (a b : Identities) → i < length list → e ≡ get_or list i e → HasSeen (take i list) a → Adds e.id e.ext a b → HasSeen (take (i + 1) list) b
seen_more list i e a b lt at so_far adds = record {
  marks = λ id ext fits. adds.marks id ext ∙ ap (λ (x : Bool). x || has_identity id ext e) (so_far.marks id ext fits)
      ∙ or_assoc (never_inherited id ext) (has_any id ext (take i list)) (has_identity id ext e)
      ∙ ap (λ (x : Bool). never_inherited id ext || x) (sym (any_more list i e lt at id ext));
}

-- it fails the test, or its identity was met already
pub passed_still : (passes : ℕ → Option ℕ → Bool) (list : List ElementValue) (i : ℕ) (e : ElementValue) (t : Identities) → i < length list → e ≡ get_or list i e → HasPassed passes (take i list) t
    → (passes e.id e.ext ≡ false) ⊎ (has_any e.id e.ext (take i list) ≡ true) → HasPassed passes (take (i + 1) list) t
passed_still passes list i e t lt at so_far why = record {
  marks = λ id ext. so_far.marks id ext ∙ by (has_identity id ext e) (has_any id ext (take i list)) (passes id ext) (λ is. here id ext is why)
      ∙ ap (λ (x : Bool). x && passes id ext) (sym (any_more list i e lt at id ext));
}
  where
    here : (id : ℕ) (ext : Option ℕ) → has_identity id ext e ≡ true → (passes e.id e.ext ≡ false) ⊎ (has_any e.id e.ext (take i list) ≡ true) → (passes id ext ≡ false) ⊎ (has_any id ext (take i list) ≡ true)
    here id ext is (inl fails) = inl (sym (at_identity passes id ext e is) ∙ fails)
    here id ext is (inr met) = inr (sym (at_identity (λ n x. has_any n x (take i list)) id ext e is) ∙ met)

    cases : (before pass : Bool) → (pass ≡ false) ⊎ (before ≡ true) → (before && pass) ≡ ((before || true) && pass)
    cases before pass (inl fails) = and_right before pass fails ∙ sym (and_right (before || true) pass fails)
    cases before pass (inr met) = ap (λ (x : Bool). x && pass) (met ∙ sym (or-true before))

    by : (this before pass : Bool) → (this ≡ true → (pass ≡ false) ⊎ (before ≡ true)) → (before && pass) ≡ ((before || this) && pass)
    by true before pass h = cases before pass (h refl)
    by false before pass h = ap (λ (x : Bool). x && pass) (sym (or-false before))

-- it passes the test
pub passed_more : (passes : ℕ → Option ℕ → Bool) (list : List ElementValue) (i : ℕ) (e : ElementValue) (a b : Identities) → i < length list → e ≡ get_or list i e → HasPassed passes (take i list) a → Adds e.id e.ext a b
    → passes e.id e.ext ≡ true → HasPassed passes (take (i + 1) list) b
passed_more passes list i e a b lt at so_far adds pass = record {
  marks = λ id ext. adds.marks id ext ∙ ap (λ (x : Bool). x || has_identity id ext e) (so_far.marks id ext)
      ∙ by (has_identity id ext e) (has_any id ext (take i list)) (passes id ext) (λ is. sym (at_identity passes id ext e is) ∙ pass)
      ∙ ap (λ (x : Bool). x && passes id ext) (sym (any_more list i e lt at id ext));
}
  where
    by : (this before p : Bool) → (this ≡ true → p ≡ true) → ((before && p) || this) ≡ ((before || this) && p)
    by true before p h = or-true (before && p) ∙ sym (ap (λ (x : Bool). x && p) (or-true before) ∙ h refl)
    by false before p h = or-false (before && p) ∙ ap (λ (x : Bool). x && p) (sym (or-false before))

-- the ways of an element that was met, of one that differs, and of one that is the same
pub met_already : (outer full before : List ElementValue) (id : ℕ) (ext : Option ℕ) → (never_inherited id ext || has_any id ext before) ≡ true → (is_same outer full id ext ≡ false) ⊎ (has_any id ext before ≡ true)
met_already outer full before id ext h =
    elim (or_cases (never_inherited id ext) (has_any id ext before) h) [
      | inl never ↦ inl (and_left (not (never_inherited id ext)) (same_elements (of_identity id ext outer) (of_identity id ext full)) (ap not never))
      | inr met ↦ inr met
    ]

pub differs : (outer full : List ElementValue) (id : ℕ) (ext : Option ℕ) → same_elements (of_identity id ext outer) (of_identity id ext full) ≡ false → is_same outer full id ext ≡ false
differs outer full id ext h = and_right (not (never_inherited id ext)) (same_elements (of_identity id ext outer) (of_identity id ext full)) h

pub agrees : (outer full before : List ElementValue) (id : ℕ) (ext : Option ℕ) → (never_inherited id ext || has_any id ext before) ≡ false → same_elements (of_identity id ext outer) (of_identity id ext full) ≡ true → is_same outer full id ext ≡ true
agrees outer full before id ext h same =
    ap (λ (x : Bool). not x && same_elements (of_identity id ext outer) (of_identity id ext full)) (or_parts (never_inherited id ext) (has_any id ext before) h).0 ∙ same
