-- Marks added one after the other.
use Rattle.std.proofs.Common.{◌≡◌, ◌≢◌, ◌⊎◌, set, replicate, subst, ℕ, ◌+◌, ◌<◌, Bool, true, false, not, ◌&&◌, ◌||◌, eqb, List, [], length, take, get_or, Option, Some, None, refl, sym, ap, ◌∙◌, arith, inl, inr}
use Rattle.std.specs.Prelude.{IsTrue}
use Rattle.std.specs.List.{list_any}
use Rattle.std.proofs.Math.Bool.{or-false, or-true}
use Rattle.std.proofs.lemmas.Grind.{get_or-set_at}
use Rattle.std.proofs.lemmas.List.{get_or-replicate, get_or-set_other, get_or_past, length-replicate}
use Rattle.std.proofs.lemmas.Bool.{cases_lt, cases_eq, eqb-true, eq-eqb, ne_eqb, and_right}
use Rattle.std.proofs.lemmas.List.Folds.{list_any_more}
use Rattle.wl_elem.specs.Element.{ElementValue, has_shape}
use Rattle.wl_inherit.specs.declared.identities.Identities.{Identities}
use Rattle.wl_inherit.specs.declared.non_inheritance.NonInheritance.{NonInheritance}
use Rattle.wl_inherit.specs.Identity.{has_any, has_identity, is_non, never_inherited}
use Rattle.wl_inherit.specs.Inheritance.{lists}
use Rattle.wl_inherit.specs.Marks.{AddsAll, is_marked, Adds, AddsLists}

pub or_assoc : (a b c : Bool) → ((a || b) || c) ≡ (a || (b || c))
or_assoc true b c = refl
or_assoc false b c = refl

eqb-sym : (a b : ℕ) → eqb a b ≡ eqb b a
eqb-sym a b =
    elim (cases_eq a b) [
      | inl same ↦ eq-eqb a b same ∙ sym (eq-eqb b a (sym same))
      | inr other ↦ ne_eqb a b other ∙ sym (ne_eqb b a (λ e. other (sym e)))
    ]

-- ---- the lists of a value

-- one octet more is marked in a table
pub marked_more : (table : List Bool) (octets : List ℕ) (i n : ℕ) (old : Bool) → i < length octets → get_or octets i 0 < length table → get_or table n false ≡ (old || list_any (λ x. eqb x n) (take i octets))
    → get_or (set table (get_or octets i 0) true) n false ≡ (old || list_any (λ x. eqb x n) (take (i + 1) octets))
marked_more table octets i n old lt inside so_far =
    at (cases_eq n (get_or octets i 0)) ∙ ap (λ (x : Bool). x || eqb (get_or octets i 0) n) so_far ∙ or_assoc old (list_any (λ x. eqb x n) (take i octets)) (eqb (get_or octets i 0) n)
    ∙ ap (λ (x : Bool). old || x) (sym (list_any_more (λ x. eqb x n) octets i 0 lt))
  where
    at : (n ≡ get_or octets i 0) ⊎ (n ≢ get_or octets i 0) → get_or (set table (get_or octets i 0) true) n false ≡ (get_or table n false || eqb (get_or octets i 0) n)
    at (inl same) = get_or-set_at table (get_or octets i 0) n true false same inside ∙ sym (ap (λ (x : Bool). get_or table n false || x) (eq-eqb (get_or octets i 0) n (sym same)) ∙ or-true (get_or table n false))
    at (inr other) = get_or-set_other table (get_or octets i 0) n true false other ∙ sym (ap (λ (x : Bool). get_or table n false || x) (ne_eqb (get_or octets i 0) n (λ e. other (sym e))) ∙ or-false (get_or table n false))

pub both_lists : (n : NonInheritance) (a b : Identities) → ((k : ℕ) → get_or b.ids k false ≡ (get_or a.ids k false || list_any (λ x. eqb x k) n.ids)) → ((k : ℕ) → get_or b.exts k false ≡ (get_or a.exts k false || list_any (λ x. eqb x k) n.exts)) → AddsLists n a b
both_lists n a b ids exts = record { marks = by }
  where
    by : (id : ℕ) (ext : Option ℕ) → IsTrue (has_shape id ext) → is_marked b id ext ≡ (is_marked a id ext || lists n id ext)
    by id None shape = ids id
    by id (Some ext) shape = ap (λ (x : Bool). x && get_or b.exts ext false) shape ∙ exts ext ∙ ap (λ (x : Bool). (x && get_or a.exts ext false) || list_any (λ x. eqb x ext) n.exts) (sym shape)

-- ---- the tables of a few extensions

abbrev pub IsTableOf : (ℕ → Option ℕ → Bool) → Identities → Type 0
IsTableOf test t = (id : ℕ) (ext : Option ℕ) → IsTrue (has_shape id ext) → is_marked t id ext ≡ test id ext

pub non_marked : (a b : Identities) → ((id : ℕ) (ext : Option ℕ) → is_marked a id ext ≡ false) → Adds 255 (Some 56) a b → IsTableOf is_non b
non_marked a b none one id None shape = one.marks id None ∙ ap (λ (x : Bool). x || (eqb 255 id && false)) (none id None) ∙ ap (λ (x : Bool). x && false) (eqb-sym 255 id)
non_marked a b none one id (Some ext) shape =
    one.marks id (Some ext) ∙ ap (λ (x : Bool). x || (eqb 255 id && eqb 56 ext)) (none id (Some ext)) ∙ ap (λ (x : Bool). x && eqb 56 ext) (eqb-sym 255 id) ∙ ap (λ (x : Bool). eqb id 255 && x) (eqb-sym 56 ext)

not_never : (id : ℕ) (p : Bool) → (not (eqb id 242) && not p) ≡ true → ((((p && false) || (p && false)) || (p && false))) ≡ (eqb id 242 || (p && false))
not_never id p shape = by (eqb id 242) p shape
  where
    by : (a b : Bool) → (not a && not b) ≡ true → (((b && false) || (b && false)) || (b && false)) ≡ (a || (b && false))
    by true b h = absurd (cc h)
    by false true h = refl
    by false false h = refl

pub never_marked : (a b c : Identities) → IsTableOf is_non a → Adds 255 (Some 107) a b → Adds 255 (Some 109) b c → IsTableOf never_inherited c
never_marked a b c non one two id None shape =
    two.marks id None ∙ ap (λ (x : Bool). x || (eqb 255 id && false)) (one.marks id None ∙ ap (λ (x : Bool). x || (eqb 255 id && false)) (non id None shape))
    ∙ ap (λ (x : Bool). ((eqb id 255 && false) || (x && false)) || (x && false)) (eqb-sym 255 id)
    ∙ not_never id (eqb id 255) shape
never_marked a b c non one two id (Some ext) shape =
    let at : is_marked c 255 (Some ext) ≡ never_inherited 255 (Some ext) =
    two.marks 255 (Some ext) ∙ ap (λ (x : Bool). x || eqb 109 ext) (one.marks 255 (Some ext) ∙ ap (λ (x : Bool). x || eqb 107 ext) (non 255 (Some ext) refl))
    ∙ ap (λ (x : Bool). (eqb ext 56 || x) || eqb 109 ext) (eqb-sym 107 ext) ∙ ap (λ (x : Bool). (eqb ext 56 || eqb ext 107) || x) (eqb-sym 109 ext) in
    subst (λ (n : ℕ). is_marked c n (Some ext) ≡ never_inherited n (Some ext)) (sym (eqb-true id 255 shape)) at

no_mark : (n k : ℕ) → get_or (replicate n false) k false ≡ false
no_mark n k =
    elim (cases_lt k n) [
      | inl below ↦ get_or-replicate n k false false below
      | inr above ↦ get_or_past (replicate n false) k false (omega (arith, length-replicate n false))
    ]

pub no_marks : (n id : ℕ) (ext : Option ℕ) → is_marked (record { ids = replicate n false; exts = replicate n false }) id ext ≡ false
no_marks n id None = no_mark n id
no_marks n id (Some ext) = and_right (eqb id 255) (get_or (replicate n false) ext false) (no_mark n ext)

-- ---- the identities of a list

pub all_none : (t : Identities) → AddsAll [] t t
all_none t = record { marks = λ id ext. sym (or-false (is_marked t id ext)) }

pub all_more : (list : List ElementValue) (i : ℕ) (e : ElementValue) (a b c : Identities) → i < length list → e ≡ get_or list i e → AddsAll (take i list) a b → Adds e.id e.ext b c → AddsAll (take (i + 1) list) a c
all_more list i e a b c lt at so_far one = record {
  marks = λ id ext. one.marks id ext ∙ ap (λ (x : Bool). x || has_identity id ext e) (so_far.marks id ext) ∙ or_assoc (is_marked a id ext) (has_any id ext (take i list)) (has_identity id ext e)
      ∙ ap (λ (x : ElementValue). is_marked a id ext || (has_any id ext (take i list) || has_identity id ext x)) at
      ∙ ap (λ (x : Bool). is_marked a id ext || x) (sym (list_any_more (has_identity id ext) list i e lt));
}
