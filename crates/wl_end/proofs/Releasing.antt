-- What is released of what goes up, one after the other.
use Rattle.std.proofs.Common.{◌≡◌, ℕ, zero, suc, ◌+◌, ◌<◌, ◌≤◌, Bool, true, false, List, [], ◌∷◌, ◌++◌, length, set, Option, Some, None, refl, sym, ap, ◌∙◌, arith, append_assoc}
use Rattle.std.specs.Prelude.{slice_set, slice_get, drop, if◌then◌else◌}
use Rattle.std.proofs.lemmas.List.{get_or-set_same, set-get_or, length-set}
use Rattle.wl_elem.specs.declared.lane.Lane.{Lane}
use Rattle.wl_elem.specs.Lanes.{lane_index}
use Rattle.wl_replay.specs.declared.replay.Pair.{Pair}
use Rattle.wl_replay.specs.Replay.{last_of, is_above, with_last}
use Rattle.wl_history.specs.declared.arrival.Arrival.{Arrival}
use Rattle.wl_history.specs.EndState.{LetUp, let_up, pair_of, before_it}

pub set_again : {A : Type 0} (xs : List A) (i : ℕ) (x y : A) → set (set xs i x) i y ≡ set xs i y
set_again [] i x y = refl
set_again (z ∷ xs) zero x y = refl
set_again (z ∷ xs) (suc i) x y = ap (λ (rest : List _). z ∷ rest) (set_again xs i x y)

-- what is released of these items, after these positions, with these last pairs
abbrev pub all_of : List ℕ → List (Option Pair) → Lane → List Arrival → List ℕ
all_of released pairs lane items = released ++ (let_up (last_of pairs lane) items).positions

abbrev pub last_with : List (Option Pair) → Lane → List Arrival → List (Option Pair)
last_with pairs lane items = slice_set pairs (lane_index lane) (let_up (last_of pairs lane) items).last

module _ (pairs : List (Option Pair)) (lane : Lane) (within : lane_index lane < length pairs) (a : Arrival) (items : List Arrival) where
  abbrev entered : List (Option Pair)
  entered = with_last pairs lane a.numbers.key a.numbers.pn

  own : last_of entered lane ≡ Some (pair_of a)
  own = get_or-set_same pairs (lane_index lane) (Some (pair_of a)) None within

  above : is_above (last_of pairs lane) a.numbers.key a.numbers.pn ≡ true → let_up (last_of pairs lane) (a ∷ items) ≡ before_it a.numbers.pos (let_up (last_of entered lane) items)
  above is = rw is (ap (λ (o : Option Pair). before_it a.numbers.pos (let_up o items)) (sym own))

  pub admitted : (released : List ℕ) → is_above (last_of pairs lane) a.numbers.key a.numbers.pn ≡ true → all_of (released ++ a.numbers.pos ∷ []) entered lane items ≡ all_of released pairs lane (a ∷ items)
  admitted released is = append_assoc released (a.numbers.pos ∷ []) (let_up (last_of entered lane) items).positions ∙ sym (ap (λ (l : LetUp). released ++ l.positions) (above is))

  pub admitted_last : is_above (last_of pairs lane) a.numbers.key a.numbers.pn ≡ true → last_with entered lane items ≡ last_with pairs lane (a ∷ items)
  admitted_last is = set_again pairs (lane_index lane) (Some (pair_of a)) (let_up (last_of entered lane) items).last ∙ sym (ap (λ (l : LetUp). slice_set pairs (lane_index lane) l.last) (above is))

  pub dropped : is_above (last_of pairs lane) a.numbers.key a.numbers.pn ≡ false → let_up (last_of pairs lane) items ≡ let_up (last_of pairs lane) (a ∷ items)
  dropped is = sym (rw is refl)

-- no more positions are released than items go up
few_by : (b : Bool) (pos : ℕ) (more less : LetUp) (count : ℕ) → length more.positions ≤ count → length less.positions ≤ count → length (if b then before_it pos more else less).positions ≤ count + 1
few_by true pos more less count h k = omega (arith, h)
few_by false pos more less count h k = omega (arith, k)

pub let_up_few : (last : Option Pair) (items : List Arrival) → length (let_up last items).positions ≤ length items
let_up_few last [] = omega arith
let_up_few last (a ∷ items) =
    let few : length (let_up last (a ∷ items)).positions ≤ length items + 1 = few_by (is_above last a.numbers.key a.numbers.pn) a.numbers.pos (let_up (Some (pair_of a)) items) (let_up last items) (length items) (let_up_few (Some (pair_of a)) items) (let_up_few last items) in
    omega (arith, few)

-- nothing is left
pub none_left : (pairs : List (Option Pair)) (lane : Lane) → last_with pairs lane [] ≡ pairs
none_left pairs lane = set-get_or pairs (lane_index lane) None

-- how far a release has come: whatever completes the rest completes the whole
pub record Comes (lane : Lane) (pairs old_pairs : List (Option Pair)) (items old_items : List Arrival) (released old_released up old_up : List ℕ) : Type 0 where
  pub released_is : all_of released pairs lane items ≡ all_of old_released old_pairs lane old_items
  pub up_is : all_of up pairs lane items ≡ all_of old_up old_pairs lane old_items
  pub last_is : last_with pairs lane items ≡ last_with old_pairs lane old_items
  pub place : lane_index lane < length pairs

pub one_more : (lane : Lane) (pairs old_pairs : List (Option Pair)) (a : Arrival) (items old_items : List Arrival) (released old_released up old_up : List ℕ)
    → is_above (last_of pairs lane) a.numbers.key a.numbers.pn ≡ true → Comes lane pairs old_pairs (a ∷ items) old_items released old_released up old_up
    → Comes lane (with_last pairs lane a.numbers.key a.numbers.pn) old_pairs items old_items (released ++ a.numbers.pos ∷ []) old_released (up ++ a.numbers.pos ∷ []) old_up
one_more lane pairs old_pairs a items old_items released old_released up old_up is so = record {
  released_is = admitted pairs lane so.place a items released is ∙ so.released_is;
  up_is = admitted pairs lane so.place a items up is ∙ so.up_is;
  last_is = admitted_last pairs lane so.place a items is ∙ so.last_is;
  place = omega (arith, so.place, length-set pairs (lane_index lane) (Some (pair_of a)));
}

pub one_dropped : (lane : Lane) (pairs old_pairs : List (Option Pair)) (a : Arrival) (items old_items : List Arrival) (released old_released up old_up : List ℕ)
    → is_above (last_of pairs lane) a.numbers.key a.numbers.pn ≡ false → Comes lane pairs old_pairs (a ∷ items) old_items released old_released up old_up
    → Comes lane pairs old_pairs items old_items released old_released up old_up
one_dropped lane pairs old_pairs a items old_items released old_released up old_up is so =
    let same = dropped pairs lane so.place a items is in
    record {
      released_is = ap (λ (l : LetUp). released ++ l.positions) same ∙ so.released_is;
      up_is = ap (λ (l : LetUp). up ++ l.positions) same ∙ so.up_is;
      last_is = ap (λ (l : LetUp). slice_set pairs (lane_index lane) l.last) same ∙ so.last_is;
      place = so.place;
    }

-- the first item, and the rest
pub first_is : (items : List Arrival) (a : Arrival) → Some a ≡ slice_get items 0 → items ≡ a ∷ drop 1 items
first_is [] a is = absurd (cc is)
first_is (b ∷ items) a is = let same : a ≡ b = cc in ap (λ (x : Arrival). x ∷ items) (sym same)

pub none_first : (items : List Arrival) → None ≡ slice_get items 0 → items ≡ []
none_first [] is = refl
none_first (b ∷ items) is = absurd (cc is)
