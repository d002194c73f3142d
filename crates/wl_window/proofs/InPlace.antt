-- A list that is kept in place, and one number more.
use Rattle.std.proofs.Common.{◌≡◌, ℕ, suc, ◌+◌, ◌-◌, ◌<◌, ◌≤◌, List, [], ◌∷◌, ◌++◌, length, take, set, replicate, refl, sym, ap, subst, ◌∙◌, append_assoc, length-append, arith}
use Rattle.std.specs.List.{AllByRecursion}
use Rattle.std.proofs.lemmas.List.{take_more_set, set_at, length_push, length-replicate}
use Rattle.wl_window.specs.declared.numbers12.Numbers12.TheInside.{Inside}
use Rattle.wl_window.specs.Numbers12.{padded, numbers_of, IsNumbers12}

length_padded : (xs : List ℕ) → length xs ≤ 1024 → length (padded xs) ≡ 1024
unfolding padded
length_padded xs le = let n = length-replicate {A = ℕ} (1024 - length xs) 0 in omega (arith, length-append xs (replicate (1024 - length xs) 0), n)

set_more : (xs rest : List ℕ) (n : ℕ) → set (xs ++ 0 ∷ rest) (length xs) n ≡ (xs ++ n ∷ []) ++ rest
set_more xs rest n = set_at xs 0 rest n (length xs) refl ∙ sym (append_assoc xs (n ∷ []) rest)

padded_more : (xs : List ℕ) (n : ℕ) → length xs < 1024 → set (padded xs) (length xs) n ≡ padded (xs ++ n ∷ [])
unfolding padded
padded_more xs n lt = let k : 1024 - length xs ≡ suc (1024 - length (xs ++ n ∷ [])) = omega (arith, length_push xs n) in rw k (set_more xs (replicate (1024 - length (xs ++ n ∷ [])) 0) n)

all_push : (xs : List ℕ) (n : ℕ) → AllByRecursion (λ number. number < 4096) xs → n < 4096 → AllByRecursion (λ number. number < 4096) (xs ++ n ∷ [])
all_push [] n all lt = (lt, tt)
all_push (x ∷ xs) n all lt = (all.0, all_push xs n all.1 lt)

same : (numbers other : List ℕ) (len more : ℕ) → numbers ≡ other → len ≡ more → (let a : Inside = record { numbers = numbers; len = len } in a) ≡ (let b : Inside = record { numbers = other; len = more } in b)
same numbers other len more p q = cc

pub pushed : (list : Inside) (n : ℕ) → IsNumbers12 list → list.len < 1024 → n < 4096 → IsNumbers12 (record { numbers = set list.numbers list.len n; len = list.len + 1 })
pushed list n is lt short =
    let xs = numbers_of list in
    let places : padded xs ≡ list.numbers = ap (λ (l : Inside). l.numbers) is.whole in
    let len : length xs ≡ list.len = ap (λ (l : Inside). l.len) is.whole in
    let fits : length xs < 1024 = omega arith in
    let long : list.len < length list.numbers = omega (arith, ap length places, length_padded xs (omega arith)) in
    let front : take (list.len + 1) (set list.numbers list.len n) ≡ xs ++ n ∷ [] = take_more_set list.numbers list.len n long in
    let put : set list.numbers list.len n ≡ padded (xs ++ n ∷ []) = ap (λ (l : List ℕ). set l list.len n) (sym places) ∙ ap (λ (k : ℕ). set (padded xs) k n) (sym len) ∙ padded_more xs n fits in
    record {
      whole = same _ _ _ _ (ap padded front ∙ sym put) (ap length front ∙ length_push xs n ∙ ap (λ (k : ℕ). k + 1) len);
      fit = omega arith;
      short = subst (λ (l : List ℕ). AllByRecursion (λ number. number < 4096) l) (sym front) (all_push xs n is.short short);
    }
