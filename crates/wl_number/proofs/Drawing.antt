-- Draws, and numbers above all that are booked.
use Rattle.std.proofs.Common.{◌≡◌, ℕ, ◌+◌, ◌<◌, max, Bool, true, false, nat_lt, eq-eqb, List, refl, sym, ap, subst, ◌∙◌, arith, inl, inr}
use Rattle.std.specs.Prelude.{◌==◌, ◌&&◌, ◌||◌, if◌then◌else◌, slice_set}
use Rattle.std.specs.List.{Contains}
use Rattle.std.proofs.lemmas.Bool.{lt-ltb, le-ltb, eqb-true, and_parts, both_ways}
use Rattle.wl_elem.specs.declared.lane.Lane.{Lane}
use Rattle.wl_elem.specs.Lanes.{lane_index}
use Rattle.wl_number.specs.declared.numbers.Numbers.{Numbers}
use Rattle.wl_number.specs.NumberObject.{NumberObject, made, position_of, drawn, after_draw, entered, last_with}
use Rattle.wl_elem.specs.Pairs.{pair_below}
use Rattle.wl_number.specs.OrderRule.{is_below, OrderRule, NoneBreaks, clash, list_at, list_of}
use Rattle.wl_number.proofs.Pairs.{below_trans, pair_cases, not_back, not_itself, not_same_back, not_same, no_clash_after, clash_of_two}
use Rattle.wl_number.proofs.Rule.{one_order}

abbrev last_pair : NumberObject → Numbers
last_pair o = record { pos = 0; key = o.key; pn = o.last }

-- the next draw is above the last one
drawn_above_last : (o : NumberObject) (lane : Lane) → is_below (last_pair o) (drawn o lane) ≡ true
drawn_above_last o lane = above (nat_lt o.key o.key) (o.key == o.key) (nat_lt o.last (o.last + 1)) (eq-eqb o.key o.key refl) (lt-ltb o.last (o.last + 1) (omega arith))
  where
    above : (a b c : Bool) → b ≡ true → c ≡ true → (a || (b && c)) ≡ true
    above true b c p q = refl
    above false b c p q = rw (p, q) refl

-- it is above all that isn't above the last one
pub draw_above : (o : NumberObject) (lane : Lane) (b : Numbers) → pair_below o.key o.last b.key b.pn ≡ false → is_below b (drawn o lane) ≡ true
draw_above o lane b not_above =
    elim (pair_cases b (last_pair o)) [
      | inl same ↦
          let parts = and_parts (b.key == o.key) _ same in
          let key : o.key ≡ b.key = sym (eqb-true b.key o.key parts.0) in
          let pn : o.last ≡ b.pn = sym (eqb-true b.pn o.last parts.1) in
          subst (λ (p : ℕ). pair_below b.key p o.key (o.last + 1) ≡ true) pn (subst (λ (k : ℕ). pair_below k o.last o.key (o.last + 1) ≡ true) key (drawn_above_last o lane))
      | inr (inl below) ↦ below_trans b (last_pair o) (drawn o lane) below (drawn_above_last o lane)
      | inr (inr above) ↦ absurd (both_ways _ not_above above)
    ]

next_last : (o : NumberObject) → last_with o o.key (o.last + 1) ≡ o.last + 1
next_last o = greatest (nat_lt o.key o.key) (o.key == o.key) o.last (le-ltb o.key o.key (omega arith)) (eq-eqb o.key o.key refl)
  where
    greatest : (a b : Bool) (last : ℕ) → a ≡ false → b ≡ true → (if a then last + 1 else (if b then max last (last + 1) else last)) ≡ last + 1
    greatest a b last p q = let most : max last (last + 1) ≡ last + 1 = omega arith in rw (p, q) most

pub draw_enters : (o : NumberObject) (lane : Lane) → entered o lane (drawn o lane) ≡ after_draw o lane
draw_enters o lane =
    let position : max (position_of o lane) (position_of o lane + 1) ≡ position_of o lane + 1 = omega arith in
    let key : max o.key o.key ≡ o.key = omega arith in
    ap (λ (p : ℕ). made (slice_set o.positions (lane_index lane) p) (max o.key o.key) (last_with o o.key (o.last + 1))) position
    ∙ ap (λ (k : ℕ). made (slice_set o.positions (lane_index lane) (position_of o lane + 1)) k (last_with o o.key (o.last + 1))) key
    ∙ ap (λ (l : ℕ). made (slice_set o.positions (lane_index lane) (position_of o lane + 1)) o.key l) (next_last o)

none_of : (own : Bool) (n b : Numbers) → is_below b n ≡ true → (own ≡ true → b.pos < n.pos) → clash own n b ≡ false
none_of true n b below lower = no_clash_after true b n (record { position = lower refl; pair = below })
none_of false n b below lower = clash_of_two n b ∙ not_same_back b n (not_same b n below)

pub highest : (lanes : List (List Numbers)) (lane : Lane) (n : Numbers) → ((place : ℕ) (b : Numbers) → Contains (list_at lanes place) b → is_below b n ≡ true)
    → ((b : Numbers) → Contains (list_of lanes lane) b → b.pos < n.pos) → NoneBreaks lanes lane n
highest lanes lane n below lower kept broken =
    both_ways _
    (none_of (broken.place == lane_index lane) n kept (below broken.place kept broken.booked)
    (λ own. let place : broken.place ≡ lane_index lane = eqb-true broken.place (lane_index lane) own in lower kept (subst (λ (p : ℕ). Contains (list_at lanes p) kept) place broken.booked)))
    broken.clashes

pub pair_order : (lanes : List (List Numbers)) (place : ℕ) (a b : Numbers) → OrderRule lanes → Contains (list_at lanes place) a → Contains (list_at lanes place) b → is_below a b ≡ true → a.pos < b.pos
pair_order lanes place a b rule x y below =
    elim (one_order (list_at lanes place) (rule.ascending place) a b x y) [
      | inl same ↦ absurd (both_ways _ (subst (λ (c : Numbers). is_below a c ≡ false) same (not_itself a)) below)
      | inr (inl before) ↦ before.position
      | inr (inr after) ↦ absurd (both_ways _ (not_back b a after.pair) below)
    ]
