-- The order of the pairs of key and packet number, and what it says of two bookings.
use Rattle.std.proofs.Common.{◌≡◌, ℕ, ◌<◌, Bool, true, false, nat_lt, eqb, eq-eqb, refl, sym, subst, ◌∙◌, arith, inl, inr}
use Rattle.std.specs.Prelude.{◌⊎◌, ◌&&◌, ◌||◌}
use Rattle.std.proofs.lemmas.Bool.{ltb-true, lt-ltb, le-ltb, eqb-true, ne_eqb, and_parts, and_from, or_cases, or_parts, or_from, or_left, or_right, and_left, and_right, false_from_ne_true, cases_order, both_ways}
use Rattle.wl_number.specs.declared.numbers.Numbers.{Numbers}
use Rattle.wl_elem.specs.Pairs.{pair_below}
use Rattle.wl_number.specs.OrderRule.{is_below, same_pair, clash, Precedes}

-- ---- pairs

-- some numbers of this pair
abbrev pub with_pair : ℕ → ℕ → Numbers
with_pair key pn = record { pos = 0; key = key; pn = pn }

abbrev Lower : ℕ → ℕ → ℕ → ℕ → Type 0
Lower key pn other_key other_pn = (key < other_key) ⊎ ((key ≡ other_key) × (pn < other_pn))

below_from_lower : (k p k' p' : ℕ) → Lower k p k' p' → pair_below k p k' p' ≡ true
below_from_lower k p k' p' (inl lt) = or_left (nat_lt k k') _ (lt-ltb k k' lt)
below_from_lower k p k' p' (inr (same, lt)) = or_right (nat_lt k k') _ (and_from _ _ (eq-eqb k k' same) (lt-ltb p p' lt))

lower_from_below : (k p k' p' : ℕ) → pair_below k p k' p' ≡ true → Lower k p k' p'
lower_from_below k p k' p' h =
    elim (or_cases (nat_lt k k') _ h) [
      | inl lt ↦ inl (ltb-true k k' lt)
      | inr both ↦ let parts = and_parts _ _ both in inr (eqb-true k k' parts.0, ltb-true p p' parts.1)
    ]

lower_trans : (k p k' p' k'' p'' : ℕ) → Lower k p k' p' → Lower k' p' k'' p'' → Lower k p k'' p''
lower_trans k p k' p' k'' p'' (inl a) (inl b) = inl (omega arith)
lower_trans k p k' p' k'' p'' (inl a) (inr b) = inl (omega (arith, b.0))
lower_trans k p k' p' k'' p'' (inr a) (inl b) = inl (omega (arith, a.0))
lower_trans k p k' p' k'' p'' (inr a) (inr b) = inr (a.0 ∙ b.0, omega (arith, a.1, b.1))

lower_irrefl : (k p k' p' : ℕ) → Lower k p k' p' → Lower k' p' k p → ⊥
lower_irrefl k p k' p' (inl a) (inl b) = omega arith
lower_irrefl k p k' p' (inl a) (inr b) = omega (arith, b.0)
lower_irrefl k p k' p' (inr a) (inl b) = omega (arith, a.0)
lower_irrefl k p k' p' (inr a) (inr b) = omega (arith, a.1, b.1)

pub below_trans : (a b c : Numbers) → is_below a b ≡ true → is_below b c ≡ true → is_below a c ≡ true
below_trans a b c x y = below_from_lower _ _ _ _ (lower_trans a.key a.pn b.key b.pn c.key c.pn (lower_from_below _ _ _ _ x) (lower_from_below _ _ _ _ y))

pub not_back : (a b : Numbers) → is_below a b ≡ true → is_below b a ≡ false
not_back a b x = false_from_ne_true _ (λ y. lower_irrefl a.key a.pn b.key b.pn (lower_from_below _ _ _ _ x) (lower_from_below _ _ _ _ y))

pub not_itself : (a : Numbers) → is_below a a ≡ false
not_itself a = false_from_ne_true _ (λ x. lower_irrefl a.key a.pn a.key a.pn (lower_from_below _ _ _ _ x) (lower_from_below _ _ _ _ x))

pub not_same : (a b : Numbers) → is_below a b ≡ true → same_pair a b ≡ false
not_same a b x = false_from_ne_true _ (λ same.
    let parts = and_parts _ _ same in
    let key : a.key ≡ b.key = eqb-true _ _ parts.0 in
    let pn : a.pn ≡ b.pn = eqb-true _ _ parts.1 in
    lower_irrefl a.key a.pn b.key b.pn (lower_from_below _ _ _ _ x) (elim (lower_from_below a.key a.pn b.key b.pn x) [ inl lt ↦ inl (omega arith) | inr both ↦ inr (sym key, omega (arith, both.1)) ]))

pub same_back : (a b : Numbers) → same_pair a b ≡ true → same_pair b a ≡ true
same_back a b same =
    let parts = and_parts _ _ same in
    and_from _ _ (eq-eqb _ _ (sym (eqb-true a.key b.key parts.0))) (eq-eqb _ _ (sym (eqb-true a.pn b.pn parts.1)))

pub not_same_back : (a b : Numbers) → same_pair a b ≡ false → same_pair b a ≡ false
not_same_back a b h = false_from_ne_true _ (λ same. both_ways _ h (same_back b a same))

-- two pairs are the same, or one is below the other
pub pair_cases : (a b : Numbers) → (same_pair a b ≡ true) ⊎ ((is_below a b ≡ true) ⊎ (is_below b a ≡ true))
pair_cases a b =
    elim (cases_order a.key b.key) [
      | inl key ↦ elim (cases_order a.pn b.pn) [
        | inl pn ↦ inl (and_from _ _ (eq-eqb _ _ key) (eq-eqb _ _ pn))
        | inr (inl lt) ↦ inr (inl (below_from_lower _ _ _ _ (inr (key, lt))))
        | inr (inr lt) ↦ inr (inr (below_from_lower _ _ _ _ (inr (sym key, lt))))
      ]
      | inr (inl lt) ↦ inr (inl (below_from_lower _ _ _ _ (inl lt)))
      | inr (inr lt) ↦ inr (inr (below_from_lower _ _ _ _ (inl lt)))
    ]

-- what is neither the same nor above is below
pub below_from_others : (a b : Numbers) → same_pair a b ≡ false → is_below b a ≡ false → is_below a b ≡ true
below_from_others a b same above =
    elim (pair_cases a b) [
      | inl is ↦ absurd (both_ways _ same is)
      | inr (inl is) ↦ is
      | inr (inr is) ↦ absurd (both_ways _ above is)
    ]

-- what is below the one is below what isn't below that one
pub below_onward : (a b c : Numbers) → is_below a b ≡ true → is_below c b ≡ false → is_below a c ≡ true
below_onward a b c x y =
    elim (pair_cases b c) [
      | inl same ↦
          let parts = and_parts _ _ same in
          let key : b.key ≡ c.key = eqb-true _ _ parts.0 in
          let pn : b.pn ≡ c.pn = eqb-true _ _ parts.1 in
          subst (λ (k : ℕ). pair_below a.key a.pn k c.pn ≡ true) key (subst (λ (p : ℕ). pair_below a.key a.pn b.key p ≡ true) pn x)
      | inr (inl is) ↦ below_trans a b c x is
      | inr (inr is) ↦ absurd (both_ways _ y is)
    ]

-- ---- two bookings

pub precedes_trans : (a b c : Numbers) → Precedes a b → Precedes b c → Precedes a c
precedes_trans a b c x y = record { position = omega (arith, x.position, y.position); pair = below_trans a b c x.pair y.pair }

-- what comes before the other by both doesn't clash with it, in either order
pub no_clash_before : (own : Bool) (a b : Numbers) → Precedes a b → clash own a b ≡ false
no_clash_before own a b p =
    or_from _ _ (not_same a b p.pair) (and_right own _ (or_from _ _ (ne_eqb a.pos b.pos (λ e. omega (arith, p.position, e))) (or_from _ _ (and_right (nat_lt a.pos b.pos) _ (not_back a b p.pair)) (and_left _ _ (le-ltb b.pos a.pos (omega (arith, p.position)))))))

pub no_clash_after : (own : Bool) (a b : Numbers) → Precedes a b → clash own b a ≡ false
no_clash_after own a b p =
    or_from _ _ (not_same_back a b (not_same a b p.pair)) (and_right own _ (or_from _ _ (ne_eqb b.pos a.pos (λ e. omega (arith, p.position, e))) (or_from _ _ (and_left _ _ (le-ltb b.pos a.pos (omega (arith, p.position)))) (and_right (nat_lt a.pos b.pos) _ (not_back a b p.pair)))))

-- in one lane, what doesn't clash comes before or after by both
pub no_clash_cases : (n b : Numbers) → clash true n b ≡ false → Precedes b n ⊎ Precedes n b
no_clash_cases n b h =
    let parts = or_parts (same_pair n b) _ h in
    let more = or_parts (eqb n.pos b.pos) _ parts.1 in
    let cross = or_parts (nat_lt n.pos b.pos && is_below b n) _ more.1 in
    elim (cases_order n.pos b.pos) [
      | inl same ↦ absurd (both_ways _ more.0 (eq-eqb _ _ same))
      | inr (inl lt) ↦ inr (record { position = lt; pair = below_from_others n b parts.0 (false_from_ne_true _ (λ is. both_ways _ cross.0 (and_from _ _ (lt-ltb _ _ lt) is))) })
      | inr (inr lt) ↦ inl (record { position = lt; pair = below_from_others b n (not_same_back n b parts.0) (false_from_ne_true _ (λ is. both_ways _ cross.1 (and_from _ _ (lt-ltb _ _ lt) is))) })
    ]

-- of two lanes, only equal pairs clash
pub clash_of_two : (n b : Numbers) → clash false n b ≡ same_pair n b
clash_of_two n b = elim (same_pair n b) as (λ (v : Bool). (v || false) ≡ v) [ true ↦ refl | false ↦ refl ]
