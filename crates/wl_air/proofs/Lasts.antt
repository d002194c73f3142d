-- The last one stands at the last place.
use Rattle.std.proofs.Common.{◌≡◌, ℕ, zero, suc, ◌+◌, ◌-◌, List, [], ◌∷◌, length, refl, arith}
use Rattle.std.specs.Prelude.{slice_get}
use Rattle.wl_history.specs.Words.{last_of, at}

stands_last : {A : Type 0} (xs : List A) (k : ℕ) → k + 1 ≡ length xs → slice_get xs k ≡ last_of xs
stands_last [] k len = absurd (omega arith)
stands_last (y ∷ []) zero len = refl
stands_last (y ∷ []) (suc k) len = absurd (omega arith)
stands_last (y ∷ z ∷ zs) zero len = absurd (omega arith)
stands_last (y ∷ z ∷ zs) (suc k) len = stands_last (z ∷ zs) k (omega arith)

pub last_found : {A : Type 0} (xs : List A) → slice_get xs (length xs - 1) ≡ last_of xs
last_found [] = refl
last_found (y ∷ ys) = stands_last (y ∷ ys) (length (y ∷ ys) - 1) (omega arith)

pub at_found : {A : Type 0} (xs : List A) (n : ℕ) → slice_get xs n ≡ at xs n
at_found [] n = refl
at_found (x ∷ xs) zero = refl
at_found (x ∷ xs) (suc n) = at_found xs n
