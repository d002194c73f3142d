-- Bytes that are handed over or taken in several calls.
use Rattle.std.proofs.Common.{◌≡◌, ℕ, ◌+◌, ◌-◌, ◌≤◌, List, ◌++◌, length, take, drop, Option, Some, None, sym, ap, ◌∙◌, arith}
use Rattle.std.proofs.Math.Seq.{drop-append_seam, take-add}
use Rattle.std.proofs.lemmas.List.{take_all, take_at, drop-drop, take-append-drop}
use Rattle.std.proofs.lemmas.Grind.{common_steps}
use Rattle.wl_io.specs.Source.{Hands}
use Rattle.wl_io.specs.Sink.{Takes}
use Rattle.wl_io.specs.Reading.{IsTooLong, read_limit}

-- what two reads hand over, in order
pub Hands-more : (old mid new : Option (List ℕ)) (a b : List ℕ) → Hands old mid a → Hands mid new b → Hands old new (a ++ b)
Hands-more None mid new a b h k = tt
Hands-more (Some left) None new a b h k = absurd (let e : None ≡ Some h.0 = h.2 in cc)
Hands-more (Some left) (Some rest) new a b h k = (k.0, grind (arith, common_steps), k.2)

-- what stands past a front of so many bytes
drop-front : (n : ℕ) (front rest all : List ℕ) → length front ≡ n → all ≡ front ++ rest → drop n all ≡ rest
drop-front n front rest all l e = rw (e, ← l) (drop-append_seam front rest)

-- the limit and one more were handed over
pub IsTooLong-by_hands : (old new : Option (List ℕ)) (a : List ℕ) → length a ≡ read_limit + 1 → Hands old new a → IsTooLong old new
IsTooLong-by_hands None new a n h = tt
IsTooLong-by_hands (Some left) new a n h = (grind (arith, common_steps), h.2 ∙ ap Some (sym (drop-front (read_limit + 1) a h.0 left n h.1)))

-- what two writes take, in order
Takes-more : (old mid new : Option (List ℕ)) (a b : List ℕ) → Takes old mid a → Takes mid new b → Takes old new (a ++ b)
Takes-more None mid new a b h k = tt
Takes-more (Some before) None new a b h k = absurd (let e : None ≡ Some (before ++ a) = h in cc)
Takes-more (Some before) (Some after) new a b h k = grind (arith, common_steps)

-- the first bytes, and then more of those that come after them
take-more : (count n : ℕ) (bytes : List ℕ) → take (count + n) bytes ≡ take count bytes ++ take n (take (length bytes - count) (drop count bytes))
take-more count n bytes =
    rw (take-add, take_all (length bytes - count) (drop count bytes) (grind (arith, common_steps)))

-- a write of the bytes that come after those taken
pub Takes-next : (old mid new : Option (List ℕ)) (count n : ℕ) (bytes : List ℕ) → Takes old mid (take count bytes) → Takes mid new (take n (take (length bytes - count) (drop count bytes))) → Takes old new (take (count + n) bytes)
Takes-next old mid new count n bytes h k = rw take-more (Takes-more old mid new _ _ h k)

-- a read copies the first bytes of those left, and the rest are left then
handed-front : (start n : ℕ) (all copied past : List ℕ) → n ≤ length (drop start all) → copied ≡ take n (drop start all) → drop start all ≡ take n (copied ++ past) ++ drop (start + n) all
handed-front start n all copied past l e =
    let size : length copied ≡ n = ap length e ∙ grind (arith, common_steps) in
    rw (take_at copied past n size, e, ← drop-drop n start all) (sym (take-append-drop n (drop start all)))

-- the same, of a slice of the bytes
pub handed-part : (start n : ℕ) (all shown copied past : List ℕ) → shown ≡ all → n ≤ length (take (length shown - start) (drop start shown)) → copied ≡ take n (take (length shown - start) (drop start shown)) → drop start all ≡ take n (copied ++ past) ++ drop (start + n) all
handed-part start n all shown copied past s l e =
    let whole : take (length shown - start) (drop start shown) ≡ drop start all = take_all _ _ (grind (arith, common_steps)) ∙ ap (drop start) s in
    handed-front start n all copied past (rw whole at l) (e ∙ ap (take n) whole)
