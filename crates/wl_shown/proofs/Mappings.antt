-- The loop over the mappings of a TID-To-Link Mapping element.
use Rattle.std.proofs.Common.{◌≡◌, ℕ, suc, ◌+◌, ◌<◌, Bool, true, false, List, [], ◌∷◌, ◌++◌, length, drop, get_or, ◌≤◌, Option, None, Some, refl, sym, ap, ◌∙◌, append_assoc, add-one}
use Rattle.std.specs.Prelude.{◌||◌, is_some}
use Rattle.std.proofs.Math.Seq.{drop-cons}
use Rattle.std.proofs.lemmas.List.{drop_all}
use Rattle.wl_shown.specs.TtlmText.{map_items, more_text, sum_text, map_text}

-- what stands behind the mappings so far, of which there may be some
abbrev pub rest_text : Bool → ℕ → List (Option ℕ) → List ℕ
rest_text true tid maps = more_text (map_items tid maps)
rest_text false tid maps = sum_text (map_items tid maps)

one_more : (some : Bool) (tid : ℕ) (map : Option ℕ) (maps : List (Option ℕ)) → rest_text some tid (map ∷ maps) ≡ map_text some tid map ++ rest_text (some || is_some map) (suc tid) maps
one_more true tid None maps = refl
one_more false tid None maps = refl
one_more true tid (Some n) maps = refl
one_more false tid (Some n) maps = refl

-- the text so far and the rest are the whole
pub goes_on : (maps : List (Option ℕ)) (tid : ℕ) (some now : Bool) (map : Option ℕ) (old new whole : List ℕ) → tid < length maps → map ≡ get_or maps tid map → now ≡ some || is_some map
    → new ≡ old ++ map_text some tid map → old ++ rest_text some tid (drop tid maps) ≡ whole → new ++ rest_text now (tid + 1) (drop (tid + 1) maps) ≡ whole
goes_on maps tid some now map old new whole lt is flag added so_far =
    let others = drop (suc tid) maps in
    let here : drop tid maps ≡ map ∷ others = drop-cons maps tid map lt ∙ ap (λ (x : Option ℕ). x ∷ others) (sym is) in
    let step : rest_text some tid (drop tid maps) ≡ map_text some tid map ++ rest_text (some || is_some map) (suc tid) others = ap (rest_text some tid) here ∙ one_more some tid map others in
    ap (λ (k : ℕ). new ++ rest_text now k (drop k maps)) (add-one tid) ∙ ap (λ (b : Bool). new ++ rest_text b (suc tid) others) flag
    ∙ ap (λ (x : List ℕ). x ++ rest_text (some || is_some map) (suc tid) others) added
    ∙ append_assoc old (map_text some tid map) (rest_text (some || is_some map) (suc tid) others)
    ∙ ap (λ (x : List ℕ). old ++ x) (sym step) ∙ so_far

-- nothing is left
pub ends : (maps : List (Option ℕ)) (tid : ℕ) (some : Bool) (out whole : List ℕ) → length maps ≤ tid → out ++ rest_text some tid (drop tid maps) ≡ whole → out ++ rest_text some tid [] ≡ whole
ends maps tid some out whole over so_far = ap (λ (x : List (Option ℕ)). out ++ rest_text some tid x) (sym (drop_all tid maps over)) ∙ so_far
