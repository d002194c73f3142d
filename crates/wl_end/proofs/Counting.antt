-- How many frames there are, link by link.
use Rattle.std.proofs.Common.{◌≡◌, ℕ, zero, suc, ◌+◌, ◌<◌, ◌≤◌, List, [], ◌∷◌, length, take, get_or, Some, ap, arith}
use Rattle.std.specs.Prelude.{slice_get}
use Rattle.wl_history.specs.Words.{last_of}
use Rattle.wl_end.specs.Parts.{frame_count}

pub count_more : (frames : List (List (List ℕ))) (k : ℕ) (x : List (List ℕ)) → k < length frames → x ≡ get_or frames k x → frame_count (take (suc k) frames) ≡ frame_count (take k frames) + length x
count_more [] k x lt is = absurd (omega arith)
count_more (on_link ∷ frames) zero x lt is = omega (arith, ap length is)
count_more (on_link ∷ frames) (suc k) x lt is = omega (arith, count_more frames k x (omega arith) is)

pub count_within : (frames : List (List (List ℕ))) (k : ℕ) → frame_count (take k frames) ≤ frame_count frames
count_within [] zero = omega arith
count_within [] (suc k) = omega arith
count_within (on_link ∷ frames) zero = omega arith
count_within (on_link ∷ frames) (suc k) = omega (arith, count_within frames k)

-- the last one stands at the last place
pub last_found : (xs : List (List ℕ)) (k : ℕ) (x : List ℕ) → k + 1 ≡ length xs → slice_get xs k ≡ Some x → last_of xs ≡ Some x
last_found [] k x len is = absurd (omega arith)
last_found (y ∷ []) zero x len is = is
last_found (y ∷ []) (suc k) x len is = absurd (omega arith)
last_found (y ∷ z ∷ zs) zero x len is = absurd (omega arith)
last_found (y ∷ z ∷ zs) (suc k) x len is = last_found (z ∷ zs) k x (omega arith) is
