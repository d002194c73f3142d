-- Bitmaps of links.
use Rattle.std.proofs.Common.{◌≡◌, ℕ, ◌*◌, ◌%◌, ◌^◌, ◌<◌, ◌≤◌, Bool, true, false, eq-eqb, refl, sym, ap, ◌∙◌, arith, inl, inr, bit_and, bit_or}
use Rattle.std.specs.Prelude.{◌&&◌, ◌||◌, ◌==◌, ◌⊎◌, not}
use Rattle.std.specs.Int.{bit_at, bit_not, w16}
use Rattle.std.proofs.lemmas.Bool.{eqb-true}
use Rattle.std.proofs.lemmas.Bool.Decides.{eqb_tells}
use Rattle.std.proofs.lemmas.Nat.{and_le_l}
use Rattle.std.proofs.lemmas.Nat.Bits.{bit_at_and, bit_at_set_same, bit_at_set_other, bit_at_clear_same, bit_at_clear_other, same_from_bits_below}
use Rattle.std.proofs.Math.Pow.{pow_mono}
use Rattle.wl_elem.specs.Links.{has_link, IsSubset}

abbrev pub mask : ℕ → ℕ
mask link = 1 * 2 ^ link % 65536

or_true : (b : Bool) → (b || true) ≡ true
or_true true = refl
or_true false = refl

or_false : (b : Bool) → (b || false) ≡ b
or_false true = refl
or_false false = refl

and_true : (b : Bool) → (b && true) ≡ b
and_true true = refl
and_true false = refl

and_false : (b : Bool) → (b && false) ≡ false
and_false true = refl
and_false false = refl

pub has-with : (n link k : ℕ) → link < 15 → has_link (bit_or n (mask link)) k ≡ (has_link n k || k == link)
has-with n link k within =
    elim (eqb_tells k link) [
      | inl same ↦
          let set : bit_at (bit_or n (mask link)) k ≡ 1 = ap (bit_at (bit_or n (mask link))) same.1 ∙ bit_at_set_same w16 n link (omega arith) in
          eq-eqb (bit_at (bit_or n (mask link)) k) 1 set ∙ sym (ap (λ (b : Bool). has_link n k || b) same.0 ∙ or_true (has_link n k))
      | inr other ↦
          ap (λ (b : ℕ). b == 1) (bit_at_set_other w16 n link (omega arith) k other.1) ∙ sym (ap (λ (b : Bool). has_link n k || b) other.0 ∙ or_false (has_link n k))
    ]

pub has-without : (n link k : ℕ) → link < 15 → k < 15 → has_link (bit_and n (bit_not w16 (mask link))) k ≡ (has_link n k && not (k == link))
has-without n link k within low =
    elim (eqb_tells k link) [
      | inl same ↦
          let clear : bit_at (bit_and n (bit_not w16 (mask link))) k ≡ 0 = ap (bit_at (bit_and n (bit_not w16 (mask link)))) same.1 ∙ bit_at_clear_same w16 n link (omega arith) in
          ap (λ (b : ℕ). b == 1) clear ∙ sym (ap (λ (b : Bool). has_link n k && not b) same.0 ∙ and_false (has_link n k))
      | inr other ↦
          ap (λ (b : ℕ). b == 1) (bit_at_clear_other w16 n link (omega arith) k (omega arith) other.1) ∙ sym (ap (λ (b : Bool). has_link n k && not b) other.0 ∙ and_true (has_link n k))
    ]

bit_is : (n k : ℕ) → (bit_at n k ≡ 0) ⊎ (bit_at n k ≡ 1)
bit_is n k = elim (eqb_tells (bit_at n k) 0) [ inl zero ↦ inl zero.1 | inr other ↦ inr (omega (arith, other.1)) ]

pub subset-and : (a b : ℕ) → bit_and a b ≡ a → IsSubset a b
subset-and a b same link low has =
    let is_set : bit_at a link ≡ 1 = eqb-true _ _ has in
    let both = bit_at_and a b link in
    let kept : bit_at (bit_and a b) link ≡ bit_at a link = ap (λ (n : ℕ). bit_at n link) same in
    elim (bit_is b link) [
      | inl clear ↦ absurd (omega (arith, both, kept, is_set, clear))
      | inr is ↦ eq-eqb (bit_at b link) 1 is
    ]

pub and-subset : (a b : ℕ) → a < 2 ^ 15 → IsSubset a b → bit_and a b ≡ a
and-subset a b low subset = same_from_bits_below 15 (bit_and a b) a (omega (arith, and_le_l a b)) low (λ i within.
    elim (bit_is a i) [
      | inl clear ↦ omega (arith, bit_at_and a b i, clear)
      | inr is ↦ let also : bit_at b i ≡ 1 = eqb-true _ _ (subset i within (eq-eqb (bit_at a i) 1 is)) in omega (arith, bit_at_and a b i, is, also)
    ])

pub mask_small : (link : ℕ) → link < 15 → mask link < 2 ^ 15
mask_small link within = let low : 2 ^ link ≤ 2 ^ 14 = pow_mono {i = link} {j = 14} (omega arith) in omega (arith, low)

pub mask_is : (link : ℕ) → link < 15 → mask link ≡ 2 ^ link
mask_is link within = let low : 2 ^ link ≤ 2 ^ 14 = pow_mono {i = link} {j = 14} (omega arith) in omega (arith, low)
