-- Sets of links by a test.
use Rattle.std.proofs.Common.{◌≡◌, ℕ, zero, suc, ◌*◌, ◌%◌, ◌^◌, ◌<◌, ◌≤◌, Bool, true, false, eq-eqb, refl, sym, ap, ◌∙◌, arith, inl, inr, bit_or}
use Rattle.std.specs.Prelude.{◌==◌, if◌then◌else◌}
use Rattle.std.specs.Bool.{Decides}
use Rattle.std.specs.Int.{bit_at, w16}
use Rattle.std.proofs.lemmas.Bool.Decides.{eqb_tells, Decides-below_and}
use Rattle.std.proofs.lemmas.Nat.Bits.{bit_at_set_same, bit_at_set_other, bit_at-zero}
use Rattle.std.proofs.Math.Pow.{pow_mono}
use Rattle.wl_elem.specs.Links.{has_link, set_with}
use Rattle.wl_setup.specs.Table.{passing_below, links_that, all_below, all_links}

-- what holds of either value holds of the one that is picked
either : (P : ℕ → Type 0) (test : Bool) (a b : ℕ) → (test ≡ true → P a) → (test ≡ false → P b) → P (if test then a else b)
either P true a b then_a else_b = then_a refl
either P false a b then_a else_b = else_b refl

mask_is : (link : ℕ) → link < 15 → 1 * 2 ^ link % 65536 ≡ 2 ^ link
mask_is link within = let low : 2 ^ link ≤ 2 ^ 14 = pow_mono {i = link} {j = 14} (omega arith) in omega (arith, low)

has_same : (n link : ℕ) → link < 15 → has_link (set_with n link) link ≡ true
has_same n link within =
    eq-eqb (bit_at (set_with n link) link) 1 (ap (λ (m : ℕ). bit_at (bit_or n m) link) (sym (mask_is link within)) ∙ bit_at_set_same w16 n link (omega arith))

has_other : (n link k : ℕ) → link < 15 → (k ≡ link → ⊥) → has_link (set_with n link) k ≡ has_link n k
has_other n link k within other =
    ap (λ (b : ℕ). b == 1) (ap (λ (m : ℕ). bit_at (bit_or n m) k) (sym (mask_is link within)) ∙ bit_at_set_other w16 n link (omega arith) k other)

has_past : (passes : ℕ → Bool) (n k : ℕ) → n ≤ 15 → n ≤ k → has_link (passing_below passes n) k ≡ false
has_past passes zero k low past = ap (λ (b : ℕ). b == 1) (bit_at-zero k)
has_past passes (suc n) k low past =
    let before : has_link (passing_below passes n) k ≡ false = has_past passes n k (omega arith) (omega arith) in
    either (λ (s : ℕ). has_link s k ≡ false) (passes n) (set_with (passing_below passes n) n) (passing_below passes n)
    (λ is. has_other (passing_below passes n) n k (omega arith) (λ same. omega (arith, same)) ∙ before)
    (λ is. before)

has_below : (passes : ℕ → Bool) (n k : ℕ) → n ≤ 15 → k < n → has_link (passing_below passes n) k ≡ passes k
has_below passes zero k low under = absurd (omega arith)
has_below passes (suc n) k low under =
    let so_far = passing_below passes n in
    elim (eqb_tells k n) [
      | inl same ↦
          let is : k ≡ n = same.1 in
          either (λ (s : ℕ). has_link s k ≡ passes k) (passes n) (set_with so_far n) so_far
          (λ test. ap (has_link (set_with so_far n)) is ∙ has_same so_far n (omega arith) ∙ sym (ap passes is ∙ test))
          (λ test. has_past passes n k (omega arith) (omega arith) ∙ sym (ap passes is ∙ test))
      | inr other ↦
          let before : has_link so_far k ≡ passes k = has_below passes n k (omega arith) (omega (arith, other.1)) in
          either (λ (s : ℕ). has_link s k ≡ passes k) (passes n) (set_with so_far n) so_far
          (λ test. has_other so_far n k (omega arith) other.1 ∙ before)
          (λ test. before)
    ]

pub has-links_that : (passes : ℕ → Bool) (link : ℕ) → link < 15 → has_link (links_that passes) link ≡ passes link
unfolding links_that
has-links_that passes link low = has_below passes 15 link (omega arith) low

pub all_links-Decides : (passes : ℕ → Bool) → Decides (all_links passes) ((link : ℕ) → link < 15 → passes link ≡ true)
unfolding all_links
all_links-Decides passes = Decides-below_and passes (λ link. passes link ≡ true) (all_below passes) (λ link. (λ h. h, λ h. h)) refl (λ n. refl) 15
