-- A profile is expanded in one way.
use Rattle.std.proofs.Common.{◌≡◌, ℕ, suc, ◌<◌, Bool, true, false, cond, not, ◌&&◌, ◌||◌, List, [], ◌∷◌, ◌++◌, Option, Some, Result, Ok, Err, refl, sym, ap, ◌∙◌, inl, inr, ◌⊎◌}
use Rattle.std.specs.Prelude.{filter}
use Rattle.std.specs.List.{AllByRecursion}
use Rattle.std.proofs.lemmas.List.{append-nil}
use Rattle.std.proofs.lemmas.List.Elements.{filter-append}
use Rattle.wl_elem.specs.declared.fault.Refusal.{Refusal}
use Rattle.wl_elem.specs.Answers.{in_inner}
use Rattle.wl_elem.specs.Element.{ElementValue}
use Rattle.wl_inherit.specs.declared.non_inheritance.NonInheritance.{NonInheritance}
use Rattle.wl_inherit.specs.NonInheritance.{NonOf, NonRefused, ReadAs}
use Rattle.wl_inherit.specs.Identity.{has_identity, of_identity, has_any, is_non, never_inherited}
use Rattle.wl_inherit.specs.Inheritance.{is_listed, is_inherited, expanded, Nons, BadNon, ExpandsAs, expected}
use Rattle.wl_inherit.proofs.Once.{one_reading, is_read_or_refused}
use Rattle.wl_inherit.proofs.Filters.{filter_within, none_of}

same_non : (a b : NonInheritance) (body : List ℕ) → NonOf a body → NonOf b body → a ≡ b
same_non a b body of other = let e = one_reading body (Ok a) (Ok b) of other in cc

pub one_nons : (profile : List ElementValue) (a b : List NonInheritance) → Nons profile a → Nons profile b → a ≡ b
one_nons [] a b of other = of ∙ sym other
one_nons (e ∷ profile) a b (inl (is, n, others, of, rest, same)) (inl (is2, m, more, of2, rest2, same2)) =
    same ∙ ap (λ (x : NonInheritance). x ∷ others) (same_non n m e.body of of2) ∙ ap (λ (x : List NonInheritance). m ∷ x) (one_nons profile others more rest rest2) ∙ sym same2
one_nons (e ∷ profile) a b (inl (is, n, others, of, rest, same)) (inr (isnt, rest2)) = absurd (cc (is, isnt))
one_nons (e ∷ profile) a b (inr (isnt, rest)) (inl (is, n, others, of, rest2, same)) = absurd (cc (is, isnt))
one_nons (e ∷ profile) a b (inr (isnt, rest)) (inr (isnt2, rest2)) = one_nons profile a b rest rest2

read_or_bad : (n : NonInheritance) (body : List ℕ) (refusal : Refusal) → NonOf n body → NonRefused body refusal → ⊥
read_or_bad n body refusal of bad = let e = one_reading body (Ok n) (Err refusal) of bad in absurd (cc e)

not_both : (i : ℕ) (profile : List ElementValue) (nons : List NonInheritance) (refusal : Refusal) → Nons profile nons → BadNon i profile refusal → ⊥
not_both i [] nons refusal are bad = bad
not_both i (e ∷ profile) nons refusal (inl (is, n, others, of, rest, same)) (inl (is2, inside, bad, at)) = read_or_bad n e.body inside of bad
not_both i (e ∷ profile) nons refusal (inl (is, n, others, of, rest, same)) (inr (decoded, bad)) = not_both (suc i) profile others refusal rest bad
not_both i (e ∷ profile) nons refusal (inr (isnt, rest)) (inl (is, inside, bad, at)) = absurd (cc (is, isnt))
not_both i (e ∷ profile) nons refusal (inr (isnt, rest)) (inr (decoded, bad)) = not_both (suc i) profile nons refusal rest bad

one_bad : (i : ℕ) (profile : List ElementValue) (a b : Refusal) → BadNon i profile a → BadNon i profile b → a ≡ b
one_bad i [] a b bad other = absurd bad
one_bad i (e ∷ profile) a b (inl (is, inside, bad, at)) (inl (is2, inside2, bad2, at2)) =
    let e = one_reading e.body (Err inside) (Err inside2) bad bad2 in
    let same : inside ≡ inside2 = cc in
    at ∙ ap (λ (r : Refusal). in_inner i r) same ∙ sym at2
one_bad i (e ∷ profile) a b (inl (is, inside, bad, at)) (inr (decoded, bad2)) = let d = decoded is in absurd (read_or_bad d.0 e.body inside d.1 bad)
one_bad i (e ∷ profile) a b (inr (decoded, bad)) (inl (is, inside, bad2, at)) = let d = decoded is in absurd (read_or_bad d.0 e.body inside d.1 bad2)
one_bad i (e ∷ profile) a b (inr (decoded, bad)) (inr (decoded2, bad2)) = one_bad (suc i) profile a b bad bad2

pub one_expansion : (outer profile : List ElementValue) (a b : Result (List ElementValue) Refusal) → ExpandsAs outer profile a → ExpandsAs outer profile b → a ≡ b
one_expansion outer profile (Ok a) (Ok b) (nons, are, same) (others, are2, same2) =
    ap (λ (x : List ElementValue). Ok x) (same ∙ ap (λ (n : List NonInheritance). expanded n outer profile) (one_nons profile nons others are are2) ∙ sym same2)
one_expansion outer profile (Ok a) (Err b) (nons, are, same) bad = absurd (not_both 0 profile nons b are bad)
one_expansion outer profile (Err a) (Ok b) bad (nons, are, same) = absurd (not_both 0 profile nons a are bad)
one_expansion outer profile (Err a) (Err b) bad other = ap (λ (x : Refusal). Err x) (one_bad 0 profile a b bad other)

-- ---- each profile is expanded

abbrev AreOctets : List ElementValue → Type 0
AreOctets profile = AllByRecursion (λ e. AllByRecursion (λ octet. octet < 256) e.body) profile

abbrev IsSettled : ℕ → List ElementValue → Type 0
IsSettled i profile = ((nons : List NonInheritance) × Nons profile nons) ⊎ ((refusal : Refusal) × BadNon i profile refusal)

settled_other : (i : ℕ) (e : ElementValue) (profile : List ElementValue) → is_non e.id e.ext ≡ false → IsSettled (suc i) profile → IsSettled i (e ∷ profile)
settled_other i e profile isnt (inl (nons, are)) = inl (nons, inr (isnt, are))
settled_other i e profile isnt (inr (refusal, bad)) = inr (refusal, inr (λ is. absurd (cc (is, isnt)), bad))

settled_non : (i : ℕ) (e : ElementValue) (profile : List ElementValue) (reading : Result NonInheritance Refusal) → is_non e.id e.ext ≡ true → ReadAs e.body reading → IsSettled (suc i) profile → IsSettled i (e ∷ profile)
settled_non i e profile (Ok n) is of (inl (nons, are)) = inl (n ∷ nons, inl (is, n, nons, of, are, refl))
settled_non i e profile (Ok n) is of (inr (refusal, bad)) = inr (refusal, inr (λ _. (n, of), bad))
settled_non i e profile (Err inside) is bad rest = inr (in_inner i inside, inl (is, inside, bad, refl))

by_kind : (i : ℕ) (e : ElementValue) (profile : List ElementValue) (b : Bool) → is_non e.id e.ext ≡ b → AllByRecursion (λ octet. octet < 256) e.body → IsSettled (suc i) profile → IsSettled i (e ∷ profile)
by_kind i e profile true is octets rest = let reading = is_read_or_refused e.body octets in settled_non i e profile reading.0 is reading.1 rest
by_kind i e profile false isnt octets rest = settled_other i e profile isnt rest

settled : (i : ℕ) (profile : List ElementValue) → AreOctets profile → IsSettled i profile
settled i [] octets = inl ([], refl)
settled i (e ∷ profile) octets = by_kind i e profile (is_non e.id e.ext) refl octets.0 (settled (suc i) profile octets.1)

answer : (outer profile : List ElementValue) → IsSettled 0 profile → (reading : Result (List ElementValue) Refusal) × ExpandsAs outer profile reading
answer outer profile (inl (nons, are)) = (Ok (expanded nons outer profile), (nons, are, refl))
answer outer profile (inr (refusal, bad)) = (Err refusal, bad)

pub is_expanded_or_refused : (outer profile : List ElementValue) → AreOctets profile → (reading : Result (List ElementValue) Refusal) × ExpandsAs outer profile reading
is_expanded_or_refused outer profile octets = answer outer profile (settled 0 profile octets)

-- ---- the elements of one identity

by_tests : (never listed own : Bool) (outer profile : List ElementValue) → (own ≡ false → profile ≡ [])
    → cond (not never && not listed && not own) outer [] ++ profile ≡ cond own profile (cond (never || listed) [] outer)
by_tests true true true outer profile none = refl
by_tests true true false outer profile none = none refl
by_tests true false true outer profile none = refl
by_tests true false false outer profile none = none refl
by_tests false true true outer profile none = refl
by_tests false true false outer profile none = none refl
by_tests false false true outer profile none = refl
by_tests false false false outer profile none = ap (λ (x : List ElementValue). outer ++ x) (none refl) ∙ append-nil outer

-- the two parts of the expanded list, at one identity
parts : (nons : List NonInheritance) (outer profile : List ElementValue) (id : ℕ) (ext : Option ℕ) → of_identity id ext (expanded nons outer profile)
    ≡ cond (not (never_inherited id ext) && not (is_listed nons id ext) && not (has_any id ext profile)) (of_identity id ext outer) [] ++ cond (not (is_non id ext)) (of_identity id ext profile) []
parts nons outer profile id ext =
    filter-append (has_identity id ext) (filter (is_inherited nons profile) outer) (filter (λ e. not (is_non e.id e.ext)) profile)
    ∙ ap (λ (x : List ElementValue). x ++ of_identity id ext (filter (λ e. not (is_non e.id e.ext)) profile)) (filter_within (λ i x. not (never_inherited i x) && not (is_listed nons i x) && not (has_any i x profile)) id ext outer)
    ∙ ap (λ (x : List ElementValue). cond (not (never_inherited id ext) && not (is_listed nons id ext) && not (has_any id ext profile)) (of_identity id ext outer) [] ++ x) (filter_within (λ i x. not (is_non i x)) id ext profile)

pub at_identity_expected : (nons : List NonInheritance) (outer profile : List ElementValue) (id : ℕ) (ext : Option ℕ) → is_non id ext ≡ false → of_identity id ext (expanded nons outer profile) ≡ expected nons outer profile id ext
at_identity_expected nons outer profile id ext isnt =
    parts nons outer profile id ext
    ∙ ap (λ (b : Bool). cond (not (never_inherited id ext) && not (is_listed nons id ext) && not (has_any id ext profile)) (of_identity id ext outer) [] ++ cond (not b) (of_identity id ext profile) []) isnt
    ∙ by_tests (never_inherited id ext) (is_listed nons id ext) (has_any id ext profile) (of_identity id ext outer) (of_identity id ext profile) (none_of id ext profile)

pub no_non : (nons : List NonInheritance) (outer profile : List ElementValue) → of_identity 255 (Some 56) (expanded nons outer profile) ≡ []
no_non nons outer profile = parts nons outer profile 255 (Some 56)
