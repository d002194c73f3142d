-- Filters by identity.
use Rattle.std.proofs.Common.{◌≡◌, ℕ, Bool, true, false, cond, eqb, List, [], ◌∷◌, Option, Some, None, refl, sym, ap, ◌∙◌}
use Rattle.std.specs.Prelude.{filter}
use Rattle.std.proofs.lemmas.Bool.{eqb-true, eq-eqb, and_parts, and_from, or_parts}
use Rattle.wl_elem.specs.Element.{ElementValue}
use Rattle.wl_inherit.specs.Identity.{same_ext, has_identity, of_identity, has_any}

pub same_ext-true : (a b : Option ℕ) → same_ext a b ≡ true → a ≡ b
same_ext-true None None h = refl
same_ext-true None (Some b) h = absurd (cc h)
same_ext-true (Some a) None h = absurd (cc h)
same_ext-true (Some a) (Some b) h = ap (λ (n : ℕ). Some n) (eqb-true a b h)

pub same_ext-same : (a : Option ℕ) → same_ext a a ≡ true
same_ext-same None = refl
same_ext-same (Some a) = eq-eqb a a refl

-- the element has its own identity
pub has_own : (e : ElementValue) → has_identity e.id e.ext e ≡ true
has_own e = and_from (eqb e.id e.id) (same_ext e.ext e.ext) (eq-eqb e.id e.id refl) (same_ext-same e.ext)

-- a test of the identity, at an element that has it
pub at_identity : (q : ℕ → Option ℕ → Bool) (id : ℕ) (ext : Option ℕ) (e : ElementValue) → has_identity id ext e ≡ true → q e.id e.ext ≡ q id ext
at_identity q id ext e h =
    let both = and_parts (eqb e.id id) (same_ext e.ext ext) h in
    ap (λ (n : ℕ). q n e.ext) (eqb-true e.id id both.0) ∙ ap (q id) (same_ext-true e.ext ext both.1)

one_kept : (p : Bool) (q b : Bool) (e : ElementValue) (xs ys : List ElementValue) → (p ≡ true → q ≡ b) → (x : ElementValue → Bool) → x e ≡ p
    → filter x xs ≡ cond b ys [] → filter x (cond q (e ∷ xs) xs) ≡ cond b (cond p (e ∷ ys) ys) []
one_kept true true b e xs ys same x is h = ap (λ (r : Bool). cond r (e ∷ filter x xs) (filter x xs)) is ∙ by b (same refl) h
  where
    by : (b : Bool) → true ≡ b → filter x xs ≡ cond b ys [] → e ∷ filter x xs ≡ cond b (e ∷ ys) []
    by true s h = ap (λ (l : List ElementValue). e ∷ l) h
    by false s h = absurd (cc s)
one_kept true false b e xs ys same x is h = by b (same refl) h
  where
    by : (b : Bool) → false ≡ b → filter x xs ≡ cond b ys [] → filter x xs ≡ cond b (e ∷ ys) []
    by true s h = absurd (cc s)
    by false s h = h
one_kept false true b e xs ys same x is h = ap (λ (r : Bool). cond r (e ∷ filter x xs) (filter x xs)) is ∙ h
one_kept false false b e xs ys same x is h = h

-- what a test of the identity keeps of the elements of one identity: all of them or none
pub filter_within : (q : ℕ → Option ℕ → Bool) (id : ℕ) (ext : Option ℕ) (list : List ElementValue) → of_identity id ext (filter (λ e. q e.id e.ext) list) ≡ cond (q id ext) (of_identity id ext list) []
filter_within q id ext [] = sym (by (q id ext))
  where
    by : (b : Bool) → cond b (of_identity id ext []) (of_identity id ext []) ≡ of_identity id ext []
    by true = refl
    by false = refl
filter_within q id ext (e ∷ list) =
    one_kept (has_identity id ext e) (q e.id e.ext) (q id ext) e (filter (λ e. q e.id e.ext) list) (of_identity id ext list) (at_identity q id ext e) (has_identity id ext) refl (filter_within q id ext list)

-- no element of this identity
pub none_of : (id : ℕ) (ext : Option ℕ) (list : List ElementValue) → has_any id ext list ≡ false → of_identity id ext list ≡ []
none_of id ext [] h = refl
none_of id ext (e ∷ list) h =
    let both = or_parts (has_identity id ext e) (has_any id ext list) h in
    ap (λ (b : Bool). cond b (e ∷ of_identity id ext list) (of_identity id ext list)) both.0 ∙ none_of id ext list both.1
