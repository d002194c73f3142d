-- Octets and their places, bits and words.
use Rattle.std.proofs.Common.{◌≡◌, ℕ, zero, suc, ◌/◌, ◌%◌, ◌≤◌, Bool, List, [], ◌∷◌, ◌++◌, length, take, drop, get_or, refl, sym, ap, ◌∙◌, arith}
use Rattle.std.proofs.Math.Seq.{take-append_seam}
use Rattle.std.proofs.lemmas.List.{append-nil, drop_all}
use Rattle.wl_elem.specs.Bits.{bit, has_bit}
use Rattle.wl_elem.proofs.Numbers.{bit_is}

-- the octets at so many places from one on
abbrev pub cells : ℕ → ℕ → List ℕ → List ℕ
cells zero place octets = []
cells (suc count) place octets = get_or octets place 0 ∷ cells count (suc place) octets

shifted : (count place : ℕ) (b : ℕ) (octets : List ℕ) → cells count (suc place) (b ∷ octets) ≡ cells count place octets
shifted zero place b octets = refl
shifted (suc count) place b octets = ap (λ (x : List ℕ). get_or octets place 0 ∷ x) (shifted count (suc place) b octets)

pub in_cells : (count : ℕ) (octets : List ℕ) → count ≤ length octets → octets ≡ cells count 0 octets ++ drop count octets
in_cells zero octets long = refl
in_cells (suc count) [] long = absurd (omega arith)
in_cells (suc count) (b ∷ octets) long = ap (λ (x : List ℕ). b ∷ x) (in_cells count octets (omega arith) ∙ ap (λ (x : List ℕ). x ++ drop count octets) (sym (shifted count 0 b octets)))

cells_len : (count place : ℕ) (octets : List ℕ) → length (cells count place octets) ≡ count
cells_len zero place octets = refl
cells_len (suc count) place octets = ap suc (cells_len count (suc place) octets)

pub take_cells : (count : ℕ) (octets : List ℕ) → count ≤ length octets → take count octets ≡ cells count 0 octets
take_cells count octets long =
    let len : length (cells count 0 octets) ≡ count = cells_len count 0 octets in
    ap (take count) (in_cells count octets long) ∙ ap (λ (n : ℕ). take n (cells count 0 octets ++ drop count octets)) (sym len) ∙ take-append_seam (cells count 0 octets) (drop count octets)

-- an address by its places
pub six : (a : List ℕ) → length a ≡ 6 → cells 6 0 a ≡ a
six a len =
    let whole : a ≡ cells 6 0 a ++ drop 6 a = in_cells 6 a (omega arith) in
    let none : drop 6 a ≡ [] = drop_all 6 a (omega arith) in
    sym (whole ∙ ap (λ (x : List ℕ). cells 6 0 a ++ x) none ∙ append-nil (cells 6 0 a))

same_parts : (u v w a b c rest : List ℕ) → u ≡ a → v ≡ b → w ≡ c → u ++ (v ++ (w ++ rest)) ≡ a ++ (b ++ (c ++ rest))
same_parts u v w a b c rest e f g = rw (e, f, g) refl

-- three addresses by their places, before other octets
pub three : (a b c x y z rest : List ℕ) → x ≡ a → y ≡ b → z ≡ c → length x ≡ 6 → length y ≡ 6 → length z ≡ 6 → cells 6 0 x ++ (cells 6 0 y ++ (cells 6 0 z ++ rest)) ≡ a ++ (b ++ (c ++ rest))
three a b c x y z rest e f g sx sy sz = same_parts (cells 6 0 x) (cells 6 0 y) (cells 6 0 z) a b c rest (six x sx ∙ e) (six y sy ∙ f) (six z sz ∙ g)

-- ---- bits

pub value_of_bit : (octet place : ℕ) (b : Bool) → has_bit octet place ≡ b → octet / place % 2 ≡ bit b
value_of_bit octet place b e = sym (bit_is octet place) ∙ ap bit e
