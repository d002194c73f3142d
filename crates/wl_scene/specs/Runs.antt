-- What runs of positions are.
use Rattle.std.specs.Prelude.{◌≡◌, ◌≢◌, ℕ, zero, suc, ◌-◌, ◌≤◌, List, [], ◌∷◌, ◌++◌}
use Rattle.std.specs.List.{AllByRecursion}
use Rattle.wl_scene.specs.Report.{Run}

-- the position and so many behind it
abbrev pub rising : ℕ → ℕ → List ℕ
rising first zero = first ∷ []
rising first (suc count) = first ∷ rising (suc first) count

-- the positions of runs, in order
abbrev pub spelled : List Run → List ℕ
spelled [] = []
spelled (r ∷ rs) = rising r.first (r.last - r.first) ++ spelled rs

-- no run begins directly behind the one before it
abbrev pub AreApart : List Run → Type 0
AreApart [] = Unit {0}
AreApart (r ∷ []) = Unit {0}
AreApart (r ∷ s ∷ rs) = (s.first ≢ suc r.last) × AreApart (s ∷ rs)

-- these are the maximal runs of the positions
pub record AreRuns (runs : List Run) (positions : List ℕ) : Type 0 where
  pub ordered : AllByRecursion (λ r. r.first ≤ r.last) runs
  pub whole : spelled runs ≡ positions
  pub apart : AreApart runs
