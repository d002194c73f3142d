-- Inheritance in per-STA profiles (IEEE Std 802.11be, 35.3). A profile inherits the elements of the
-- frame that carries it, but those that aren't inherited by rule, those that its Non-Inheritance
-- elements list, and those of an identity that it has itself.
use Rattle.std.specs.Prelude.{◌≡◌, ℕ, suc, ◌==◌, ◌⊎◌, ◌&&◌, ◌||◌, not, Bool, false, if◌then◌else◌, IsTrue, List, [], ◌∷◌, ◌++◌, filter, Option, Some, None, Result, Ok, Err}
use Rattle.std.specs.List.{list_any}
use Rattle.wl_elem.specs.declared.fault.Refusal.{Refusal}
use Rattle.wl_elem.specs.Answers.{in_inner}
use Rattle.wl_elem.specs.Element.{ElementValue}
use Rattle.wl_inherit.specs.declared.non_inheritance.NonInheritance.{NonInheritance}
use Rattle.wl_inherit.specs.NonInheritance.{NonOf, NonRefused}
use Rattle.wl_inherit.specs.Identity.{of_identity, has_any, is_non, never_inherited}

-- whether the value lists the identity: its ID in the first list, or its extension in the second
abbrev pub lists : NonInheritance → ℕ → Option ℕ → Bool
lists n id None = list_any (λ x. x == id) n.ids
lists n id (Some ext) = list_any (λ x. x == ext) n.exts

-- whether one of several values lists it
abbrev pub is_listed : List NonInheritance → ℕ → Option ℕ → Bool
is_listed nons id ext = list_any (λ n. lists n id ext) nons

-- whether an element of the frame is inherited
abbrev pub is_inherited : List NonInheritance → List ElementValue → ElementValue → Bool
is_inherited nons profile e = not (never_inherited e.id e.ext) && not (is_listed nons e.id e.ext) && not (has_any e.id e.ext profile)

-- the inherited elements, and then the profile's own
abbrev pub expanded : List NonInheritance → List ElementValue → List ElementValue → List ElementValue
expanded nons outer profile = filter (is_inherited nons profile) outer ++ filter (λ e. not (is_non e.id e.ext)) profile

-- the values of a profile's Non-Inheritance elements, in order
abbrev pub Nons : List ElementValue → List NonInheritance → Type 0
Nons [] nons = nons ≡ []
Nons (e ∷ profile) nons =
    (IsTrue (is_non e.id e.ext) × (n : NonInheritance) × (others : List NonInheritance) × NonOf n e.body × Nons profile others × (nons ≡ n ∷ others))
    ⊎ ((is_non e.id e.ext ≡ false) × Nons profile nons)

-- if it is a Non-Inheritance element, it has a value
abbrev pub IsDecoded : ElementValue → Type 0
IsDecoded e = IsTrue (is_non e.id e.ext) → (n : NonInheritance) × NonOf n e.body

-- The first Non-Inheritance element without a value stands at the refusal's inner index, counted on
-- from i, and its body is refused so.
abbrev pub BadNon : ℕ → List ElementValue → Refusal → Type 0
BadNon i [] refusal = ⊥
BadNon i (e ∷ profile) refusal =
    (IsTrue (is_non e.id e.ext) × (inside : Refusal) × NonRefused e.body inside × (refusal ≡ in_inner i inside))
    ⊎ (IsDecoded e × BadNon (suc i) profile refusal)

-- the profile expanded within the frame, or as refused
abbrev pub ExpandsAs : List ElementValue → List ElementValue → Result (List ElementValue) Refusal → Type 0
ExpandsAs outer profile (Ok list) = (nons : List NonInheritance) × Nons profile nons × (list ≡ expanded nons outer profile)
ExpandsAs outer profile (Err refusal) = BadNon 0 profile refusal

-- the elements of one identity in the expanded list
abbrev pub expected : List NonInheritance → List ElementValue → List ElementValue → ℕ → Option ℕ → List ElementValue
expected nons outer profile id ext =
    if has_any id ext profile
    then of_identity id ext profile
    else (if never_inherited id ext || is_listed nons id ext then [] else of_identity id ext outer)
