-- A bitmap of links passes the test exactly where it has a link, and only links that are set up.
use Rattle.std.proofs.Common.{◌≡◌, ℕ, ◌<◌, ◌≤◌, true, false, eq-eqb, eqb-true, ap, subst, arith, inl, inr, bit_and}
use Rattle.std.specs.Prelude.{◌==◌, ◌↔◌, not, IsTrue}
use Rattle.std.specs.Int.{bit_at, trailing_zeros, w16}
use Rattle.std.proofs.lemmas.Bool.{and_from, and_parts}
use Rattle.std.proofs.lemmas.Bool.Decides.{eqb_tells}
use Rattle.std.proofs.lemmas.Nat.{and_le_r}
use Rattle.std.proofs.lemmas.Nat.Bits.{bit_at-trailing_zeros, bit_at_above, bit_at-zero}
use Rattle.wl_elem.specs.Links.{has_link, link_limit, set_limit}
use Rattle.wl_elem.proofs.LinkSets.{subset-and, and-subset}
use Rattle.wl_ttlm.specs.Mapping.{IsTidSet, is_tid_set}

-- a bitmap that isn't 0 has a link: its lowest bit
has_some : (set : ℕ) → set < set_limit → 0 < set → (link : ℕ) × (link < link_limit) × (has_link set link ≡ true)
has_some set low some =
    let lowest = bit_at-trailing_zeros w16 set some (omega arith) in
    let is_set : bit_at set (trailing_zeros w16 set) ≡ 1 = lowest.1 in
    let clear : 15 ≤ trailing_zeros w16 set → bit_at set (trailing_zeros w16 set) ≡ 0 = bit_at_above set 15 (trailing_zeros w16 set) low in
    (trailing_zeros w16 set, grind (arith, is_set, clear), eq-eqb (bit_at set (trailing_zeros w16 set)) 1 is_set)

positive : (n : ℕ) → (n ≡ 0 → ⊥) → 0 < n
positive n some =
    elim (eqb_tells n 0) [
      | inl none ↦ absurd (some none.1)
      | inr other ↦ omega (arith, other.1)
    ]

-- a bitmap that isn't 0 passes exactly where it has no other links
passes_exactly : (links set : ℕ) → set < set_limit → (set ≡ 0 → ⊥) → IsTrue (bit_and set links == set) ↔ IsTidSet links set
passes_exactly links set low some = (
  λ passes. record {
    some = has_some set low (positive set some);
    only = subset-and set links (eqb-true (bit_and set links) set passes);
  },
  λ is. eq-eqb (bit_and set links) set (and-subset set links low is.only),
)

pub tid_passes : (links set bits others : ℕ) → bits ≡ set → others ≡ links → bits < set_limit → (bits ≡ 0 → ⊥) → IsTrue (bit_and bits others == bits) ↔ IsTidSet links set
tid_passes links set bits others is are low some =
    subst (λ (s : ℕ). IsTrue (bit_and bits others == bits) ↔ IsTidSet links s) is
    (subst (λ (l : ℕ). IsTrue (bit_and bits others == bits) ↔ IsTidSet l bits) are (passes_exactly others bits low some))

isnt_none : (set : ℕ) → (set ≡ 0 → ⊥) → not (set == 0) ≡ true
isnt_none set some =
    elim (eqb_tells set 0) [
      | inl none ↦ absurd (some none.1)
      | inr other ↦ ap not other.0
    ]

is_some : (set : ℕ) → not (set == 0) ≡ true → set ≡ 0 → ⊥
is_some set test none = let passed : not (set == 0) ≡ false = ap not (eq-eqb set 0 none) in let untrue : true ≡ false = cc in absurd (cc)

pub tid_test : (links set : ℕ) → set < set_limit → IsTidSet links set → is_tid_set links set ≡ true
tid_test links set low is =
    let has_link : (set ≡ 0 → ⊥) = λ none. let bit : bit_at set is.some.0 ≡ 1 = eqb-true _ _ is.some.2 in omega (arith, bit, ap (λ (n : ℕ). bit_at n is.some.0) none, bit_at-zero is.some.0) in
    and_from _ _ (isnt_none set has_link) (eq-eqb (bit_and set links) set (and-subset set links low is.only))

pub tid_told : (links set : ℕ) → links < set_limit → is_tid_set links set ≡ true → IsTidSet links set
tid_told links set low test =
    let within : bit_and set links ≡ set = eqb-true _ _ (and_parts (not (set == 0)) _ test).1 in record {
      some = has_some set (omega (arith, and_le_r set links, within)) (positive set (is_some set (and_parts _ _ test).0));
      only = subset-and set links within;
    }
