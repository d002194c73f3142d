-- The links that pass a test, in ascending order.
use Rattle.std.proofs.Common.{◌≡◌, ℕ, zero, suc, ◌+◌, ◌<◌, ◌≤◌, Bool, true, false, cond, List, ◌∷◌, length, Option, refl, ap, ◌∙◌, arith, inl, inr}
use Rattle.std.specs.Prelude.{◌==◌, ◌&&◌, ◌||◌, not}
use Rattle.std.specs.List.{AllByRecursion}
use Rattle.std.proofs.lemmas.Bool.{and_parts, cases_eq, eq-eqb, ne_eqb}
use Rattle.wl_assoc.specs.Profiles.{is_among, AreDifferent}
use Rattle.wl_setup.specs.Table.{is_named}
use Rattle.wl_joining.specs.Joining.{passing_from, is_other, other_links}

-- ---- one more link

among_more : (x link : ℕ) (links : List ℕ) (b : Bool) → is_among x (cond b (link ∷ links) links) ≡ ((b && (link == x)) || is_among x links)
among_more x link links true = refl
among_more x link links false = refl

not_it : (b : Bool) (link x : ℕ) → (link == x) ≡ false → (b && (link == x)) ≡ false
not_it true link x e = e
not_it false link x e = refl

it_is : (b : Bool) (link x : ℕ) → (link == x) ≡ true → (b && (link == x)) ≡ b
it_is true link x e = e
it_is false link x e = refl

or_none : (b c : Bool) → c ≡ false → (b || c) ≡ b
or_none true c e = refl
or_none false c e = e

different_more : (link : ℕ) (links : List ℕ) (b : Bool) → is_among link links ≡ false → AreDifferent links → AreDifferent (cond b (link ∷ links) links)
different_more link links true new are = (new, are)
different_more link links false new are = are

each_more : (P : ℕ → Type 0) (link : ℕ) (links : List ℕ) (b : Bool) → (b ≡ true → P link) → AllByRecursion P links → AllByRecursion P (cond b (link ∷ links) links)
each_more P link links true is all = (is refl, all)
each_more P link links false is all = all

short_more : (link n : ℕ) (links : List ℕ) (b : Bool) → length links ≤ n → length (cond b (link ∷ links) links) ≤ suc n
short_more link n links true le = omega (arith, le)
short_more link n links false le = omega (arith, le)

-- ---- so many links from one on

among_below : (passes : ℕ → Bool) (from count x : ℕ) → x < from → is_among x (passing_from passes from count) ≡ false
among_below passes from zero x lt = refl
among_below passes from (suc count) x lt =
    among_more x from (passing_from passes (suc from) count) (passes from)
    ∙ ap (λ (b : Bool). b || is_among x (passing_from passes (suc from) count)) (not_it (passes from) from x (ne_eqb from x (λ e. omega (arith, e))))
    ∙ among_below passes (suc from) count x (omega arith)

among_passing : (passes : ℕ → Bool) (from count x : ℕ) → from ≤ x → x < from + count → is_among x (passing_from passes from count) ≡ passes x
among_passing passes from zero x le lt = absurd (omega arith)
among_passing passes from (suc count) x le lt =
    let rest = is_among x (passing_from passes (suc from) count) in
    elim (cases_eq from x) [
      | inl same ↦
          among_more x from (passing_from passes (suc from) count) (passes from)
          ∙ ap (λ (b : Bool). b || rest) (it_is (passes from) from x (eq-eqb from x same))
          ∙ or_none (passes from) rest (among_below passes (suc from) count x (omega arith))
          ∙ ap passes same
      | inr other ↦
          among_more x from (passing_from passes (suc from) count) (passes from)
          ∙ ap (λ (b : Bool). b || rest) (not_it (passes from) from x (ne_eqb from x other))
          ∙ among_passing passes (suc from) count x (omega arith) (omega arith)
    ]

different_passing : (passes : ℕ → Bool) (from count : ℕ) → AreDifferent (passing_from passes from count)
different_passing passes from zero = tt
different_passing passes from (suc count) =
    different_more from (passing_from passes (suc from) count) (passes from) (among_below passes (suc from) count from (omega arith)) (different_passing passes (suc from) count)

each_passing : (P : ℕ → Type 0) (passes : ℕ → Bool) (from count : ℕ) → ((link : ℕ) → link < from + count → passes link ≡ true → P link) → AllByRecursion P (passing_from passes from count)
each_passing P passes from zero is = tt
each_passing P passes from (suc count) is =
    each_more P from (passing_from passes (suc from) count) (passes from) (is from (omega arith)) (each_passing P passes (suc from) count (λ link lt. is link (omega arith)))

short_passing : (passes : ℕ → Bool) (from count : ℕ) → length (passing_from passes from count) ≤ count
short_passing passes from zero = omega arith
short_passing passes from (suc count) = short_more from count (passing_from passes (suc from) count) (passes from) (short_passing passes (suc from) count)

-- ---- the links that a table names but one

pub others_among : {A : Type 0} (table : List (Option A)) (on x : ℕ) → x < 15 → is_among x (other_links table on) ≡ is_other table on x
unfolding other_links
others_among table on x lt = among_passing (is_other table on) 0 15 x (omega arith) (omega arith)

pub others_different : {A : Type 0} (table : List (Option A)) (on : ℕ) → AreDifferent (other_links table on)
unfolding other_links
others_different table on = different_passing (is_other table on) 0 15

pub others_short : {A : Type 0} (table : List (Option A)) (on : ℕ) → length (other_links table on) ≤ 15
unfolding other_links
others_short table on = short_passing (is_other table on) 0 15

-- what holds of a link that is named and isn't this one holds of each
pub others_each : {A : Type 0} (P : ℕ → Type 0) (table : List (Option A)) (on : ℕ) → ((link : ℕ) → link < 15 → is_named table link ≡ true → not (link == on) ≡ true → P link) → AllByRecursion P (other_links table on)
unfolding other_links
others_each P table on is =
    each_passing P (is_other table on) 0 15 (λ link lt passes. let both = and_parts (is_named table link) (not (link == on)) passes in is link (omega arith) both.0 both.1)
