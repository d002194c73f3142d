-- The runs of positions are their maximal runs.
use Rattle.std.proofs.Common.{◌≡◌, ◌≢◌, ℕ, zero, suc, ◌+◌, ◌-◌, ◌≤◌, ◌==◌, Bool, true, false, if◌then◌else◌, List, [], ◌∷◌, ◌++◌, eqb-true, true≢false, refl, sym, ap, ◌∙◌, append_assoc, arith}
use Rattle.std.proofs.lemmas.Bool.Decides.{nat_tests}
use Rattle.std.specs.List.{AllByRecursion}
use Rattle.wl_scene.specs.Report.{Run, run, runs_from, runs}
use Rattle.wl_scene.specs.Runs.{rising, spelled, AreApart, AreRuns}

-- one position more at the end
longer : (first count : ℕ) → rising first (suc count) ≡ rising first count ++ (first + suc count) ∷ []
longer first zero = let same : suc first ≡ first + suc zero = omega arith in ap (λ (p : ℕ). first ∷ p ∷ []) same
longer first (suc count) =
    let same : suc first + suc count ≡ first + suc (suc count) = omega arith in
    ap (λ (x : List ℕ). first ∷ x) (longer (suc first) count ∙ ap (λ (p : ℕ). rising (suc first) count ++ p ∷ []) same)

grown : (first last : ℕ) → first ≤ last → rising first (suc last - first) ≡ rising first (last - first) ++ suc last ∷ []
grown first last h =
    let more : suc last - first ≡ suc (last - first) = omega arith in
    let end : first + suc (last - first) ≡ suc last = omega arith in
    ap (rising first) more ∙ longer first (last - first) ∙ ap (λ (p : ℕ). rising first (last - first) ++ p ∷ []) end

-- the first run of some begins here
abbrev BeginsAt : ℕ → List Run → Type 0
BeginsAt first [] = Unit {0}
BeginsAt first (r ∷ rs) = r.first ≡ first

record Are (first last : ℕ) (ps : List ℕ) (rs : List Run) : Type 0 where
  pub ordered : AllByRecursion (λ r. r.first ≤ r.last) rs
  pub whole : spelled rs ≡ rising first (last - first) ++ ps
  pub apart : AreApart rs
  pub begins : BeginsAt first rs

prepended : (first last p : ℕ) (rs : List Run) → p ≢ suc last → BeginsAt p rs → AreApart rs → AreApart (run first last ∷ rs)
prepended first last p [] new begins apart = tt
prepended first last p (r ∷ rs) new begins apart = ((λ same. new (sym begins ∙ same)), apart)

step : (first last p : ℕ) (ps : List ℕ) (b : Bool) → (suc last == p) ≡ b → first ≤ last → (suc last ≡ p → Are first p ps (runs_from first p ps)) → Are p p ps (runs_from p p ps)
    → Are first last (p ∷ ps) (if b then runs_from first p ps else run first last ∷ runs_from p p ps)
step first last p ps true follows h on new =
    let is : suc last ≡ p = eqb-true _ _ follows in
    let all = on is in
    record {
      ordered = all.ordered;
      whole = all.whole ∙ ap (λ (x : List ℕ). x ++ ps) (ap (λ (q : ℕ). rising first (q - first)) (sym is) ∙ grown first last h ∙ ap (λ (q : ℕ). rising first (last - first) ++ q ∷ []) is) ∙ append_assoc (rising first (last - first)) (p ∷ []) ps;
      apart = all.apart;
      begins = all.begins;
    }
step first last p ps false follows h on new =
    let alone : p - p ≡ zero = omega arith in
    let other : p ≢ suc last = (λ same. let yes : (suc last == p) ≡ true = grind (arith, nat_tests, same) in true≢false (sym yes ∙ follows)) in
    record {
      ordered = (h, new.ordered);
      whole = ap (λ (x : List ℕ). rising first (last - first) ++ x) (new.whole ∙ ap (λ (n : ℕ). rising p n ++ ps) alone);
      apart = prepended first last p (runs_from p p ps) other new.begins new.apart;
      begins = refl;
    }

le_self : (p : ℕ) → p ≤ p
le_self p = omega arith

from_is : (ps : List ℕ) (first last : ℕ) → first ≤ last → Are first last ps (runs_from first last ps)
from_is [] first last h = record { ordered = (h, tt); whole = refl; apart = tt; begins = refl }
from_is (p ∷ ps) first last h =
    step first last p ps (suc last == p) refl h (λ is. let more : first ≤ p = omega (arith, is, h) in from_is ps first p more) (from_is ps p p (le_self p))

pub maximal : (positions : List ℕ) → AreRuns (runs positions) positions
maximal [] = record { ordered = tt; whole = refl; apart = tt }
maximal (p ∷ ps) =
    let all = from_is ps p p (le_self p) in
    let alone : p - p ≡ zero = omega arith in
    record { ordered = all.ordered; whole = all.whole ∙ ap (λ (n : ℕ). rising p n ++ ps) alone; apart = all.apart }
