-- The loops over the lanes of a report.
use Rattle.std.proofs.Common.{◌≡◌, ℕ, ◌≤◌, length, drop, List, [], ◌∷◌, Option, refl, sym, ap, ◌∙◌}
use Rattle.std.proofs.lemmas.List.{drop_all}
use Rattle.serde_json.specs.Data.{Data, Members}
use Rattle.wl_scene.specs.Objects.{Named, with_members}
use Rattle.wl_scene.specs.Report.{by_lane}

none_left : {A : Type 0} (shown : A → Option Data) (names : List (List ℕ)) → by_lane shown names [] ≡ []
none_left shown [] = refl
none_left shown (name ∷ names) = refl

-- no lanes are left
pub all_lanes : {A : Type 0} (shown : A → Option Data) (names : List (List ℕ)) (i : ℕ) (values : List A) (found whole : Members) → length values ≤ i → with_members (by_lane shown names (drop i values)) found ≡ whole → found ≡ whole
all_lanes shown names i values found whole past so_far =
    sym (ap (λ (ms : List Named). with_members ms found) (ap (by_lane shown names) (drop_all i values past) ∙ none_left shown names)) ∙ so_far
