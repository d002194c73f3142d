-- Lists of numbers and of runs as values.
use Rattle.std.proofs.Common.{◌≡◌, ℕ, suc, ◌+◌, ◌-◌, ◌<◌, ◌≤◌, ◌||◌, Bool, false, if◌then◌else◌, List, [], ◌∷◌, ◌++◌, length, get_or, map, take, drop, refl, sym, ap, ◌∙◌, add-one, arith}
use Rattle.std.proofs.lemmas.List.{append-nil, map-append, take_all, take_more, drop_all}
use Rattle.serde_json.specs.Data.{Data, item}
use Rattle.serde_json.specs.View.{view, items_of}
use Rattle.serde_json.specs.Written.{has_float, items_have_float}
use Rattle.serde_json.specs.declared.value.Value.{Value}
use Rattle.wl_elem.specs.Links.{has_link}
use Rattle.wl_scene.specs.Objects.{whole, listed, wholes}
use Rattle.wl_scene.specs.Report.{Run, run, runs_from, runs, run_data, runs_data, chosen, ids_of}

listed_are : {A : Type 0} (shown : A → Data) (xs : List A) → items_of (map shown xs) ≡ listed shown xs
listed_are shown [] = refl
listed_are shown (x ∷ xs) = ap (item (shown x)) (listed_are shown xs)

none_has_float : {A : Type 0} (shown : A → Data) → ((x : A) → has_float (shown x) ≡ false) → (xs : List A) → items_have_float (listed shown xs) ≡ false
none_has_float shown each [] = refl
none_has_float shown each (x ∷ xs) = ap (λ (b : Bool). b || items_have_float (listed shown xs)) (each x) ∙ none_has_float shown each xs

pub no_float : (ns : List ℕ) → items_have_float (wholes ns) ≡ false
no_float ns = none_has_float whole (λ n. refl) ns

pub no_float_in_runs : (rs : List Run) → items_have_float (runs_data rs) ≡ false
no_float_in_runs rs = none_has_float run_data (λ r. refl) rs

-- one number more
pub one_taken : (ns : List ℕ) (i d : ℕ) (old new : List Value) (value : Value) → i < length ns → view value ≡ whole (get_or ns i d) → new ≡ old ++ value ∷ [] → map view old ≡ map whole (take i ns)
    → map view new ≡ map whole (take (i + 1) ns)
one_taken ns i d old new value within is added so_far =
    ap (map view) added ∙ map-append view old (value ∷ []) ∙ ap (λ (ds : List Data). ds ++ view value ∷ []) so_far ∙ ap (λ (one : Data). map whole (take i ns) ++ one ∷ []) is
    ∙ sym (ap (map whole) (take_more ns i d within) ∙ map-append whole (take i ns) (get_or ns i d ∷ []))

-- all numbers are taken
pub all_taken : (ns : List ℕ) (i : ℕ) (ds : List Data) → length ns ≤ i → ds ≡ map whole (take i ns) → items_of ds ≡ wholes ns
all_taken ns i ds past so_far = ap items_of (so_far ∙ ap (map whole) (take_all i ns past)) ∙ listed_are whole ns

-- the links from this one on
from_link : (set id : ℕ) → id < 15 → chosen set (15 - id) id ≡ (if has_link set id then id ∷ chosen set (15 - (id + 1)) (id + 1) else chosen set (15 - (id + 1)) (id + 1))
from_link set id within =
    let fewer : 15 - id ≡ suc (15 - (id + 1)) = omega arith in
    ap (λ (n : ℕ). chosen set n id) fewer
    ∙ ap (λ (n : ℕ). if has_link set id then id ∷ chosen set (15 - (id + 1)) n else chosen set (15 - (id + 1)) n) (sym (add-one id))

-- one link more
pub next_link : (set id link : ℕ) (old new all : List Data) → id < 15 → link ≡ id → ((rest : List ℕ) → new ++ map whole rest ≡ old ++ map whole (if has_link set link then link ∷ rest else rest))
    → old ++ map whole (chosen set (15 - id) id) ≡ all → new ++ map whole (chosen set (15 - (id + 1)) (id + 1)) ≡ all
next_link set id link old new all within same added so_far =
    let rest = chosen set (15 - (id + 1)) (id + 1) in
    added rest ∙ ap (λ (n : ℕ). old ++ map whole (if has_link set n then n ∷ rest else rest)) same
    ∙ ap (λ (ids : List ℕ). old ++ map whole ids) (sym (from_link set id within)) ∙ so_far

-- no links are left
pub all_links : (set id : ℕ) (ds : List Data) → 15 ≤ id → ds ++ map whole (chosen set (15 - id) id) ≡ map whole (ids_of set) → items_of ds ≡ wholes (ids_of set)
all_links set id ds past so_far =
    let none : 15 - id ≡ 0 = omega arith in
    ap items_of (sym (append-nil ds) ∙ ap (λ (n : ℕ). ds ++ map whole (chosen set n id)) (sym none) ∙ so_far) ∙ listed_are whole (ids_of set)

-- no positions are left
pub all_runs : (p i first last : ℕ) (ps : List ℕ) (old new : List Data) → length ps ≤ i → old ++ map run_data (runs_from first last (drop i ps)) ≡ map run_data (runs (p ∷ ps)) → new ≡ old ++ run_data (run first last) ∷ []
    → items_of new ≡ runs_data (runs (p ∷ ps))
all_runs p i first last ps old new past so_far added =
    ap items_of (added ∙ ap (λ (left : List ℕ). old ++ map run_data (runs_from first last left)) (sym (drop_all i ps past)) ∙ so_far) ∙ listed_are run_data (runs (p ∷ ps))
