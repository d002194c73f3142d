-- The lists of all lanes: what a loop over them found so far.
use Rattle.std.proofs.Common.{◌≡◌, ℕ, zero, suc, ◌+◌, ◌<◌, ◌≤◌, Bool, true, false, eqb, List, [], ◌∷◌, length, get_or, set, Option, Some, None, refl, sym, ap, subst, ◌∙◌, arith, inl, inr}
use Rattle.std.specs.Prelude.{◌⊎◌, IsTrue, IfSome, IfNone, cond}
use Rattle.std.specs.Global.{Vec}
use Rattle.std.specs.List.{AllWithin, Contains}
use Rattle.std.specs.Vec.{vec_len, vec_capacity}
use Rattle.std.proofs.lemmas.Bool.{both_ways, cases_lt, false_from_ne_true}
use Rattle.std.proofs.lemmas.List.{get_or_past, map-set}
use Rattle.wl_elem.specs.declared.lane.Lane.{Lane}
use Rattle.wl_elem.specs.Lanes.{lane_index}
use Rattle.wl_number.specs.declared.numbers.Numbers.{Numbers}
use Rattle.wl_number.specs.OrderRule.{is_below, clash, entered_in, list_at, list_of, Breaks, LeastBreaks}
use Rattle.wl_number.specs.Places.{NoClash, FirstClash, lower_of}
use Rattle.wl_number.specs.Bookings.{lists_of, HasRoom, BookedAt}
use Rattle.wl_number.proofs.Pairs.{below_trans, below_onward}

-- nothing is booked on a lane past the last
pub none_past : (lanes : List (List Numbers)) (place : ℕ) (n : Numbers) → length lanes ≤ place → Contains (list_at lanes place) n → ⊥
none_past lanes place n past (k, within, is) = omega (arith, within, ap length (get_or_past lanes place [] past))

-- ---- the least that clashes

pub record Found (lanes : List (List Numbers)) (own : ℕ) (n : Numbers) (upto : ℕ) (kept : Numbers) : Type 0 where
  pub place : ℕ
  pub booked : Contains (list_at lanes place) kept
  pub clashes : IsTrue (clash (eqb place own) n kept)
  pub least : (p : ℕ) (other : Numbers) → p < upto → Contains (list_at lanes p) other → clash (eqb p own) n other ≡ true → is_below other kept ≡ false

-- what the lanes before this place say
abbrev pub SoFar : List (List Numbers) → ℕ → Numbers → ℕ → Option Numbers → Type 0
SoFar lanes own n upto None = (p : ℕ) → p < upto → NoClash (eqb p own) n (list_at lanes p)
SoFar lanes own n upto (Some kept) = Found lanes own n upto kept

-- the lane at the place is one before it, or the last of them
pub last_or_before : (p upto : ℕ) → p < upto + 1 → (p < upto) ⊎ (p ≡ upto)
last_or_before p upto lt = elim (cases_lt p upto) [ inl below ↦ inl below | inr ge ↦ inr (omega arith) ]

-- whatever is in the lanes so far, with the clash of one lane more
least_more : (lanes : List (List Numbers)) (own : ℕ) (n : Numbers) (upto : ℕ) (kept : Numbers)
    → ((p : ℕ) (other : Numbers) → p < upto → Contains (list_at lanes p) other → clash (eqb p own) n other ≡ true → is_below other kept ≡ false)
    → ((other : Numbers) → Contains (list_at lanes upto) other → clash (eqb upto own) n other ≡ true → is_below other kept ≡ false)
    → (p : ℕ) (other : Numbers) → p < upto + 1 → Contains (list_at lanes p) other → clash (eqb p own) n other ≡ true → is_below other kept ≡ false
least_more lanes own n upto kept before here p other lt there c =
    elim (last_or_before p upto lt) [
      | inl below ↦ before p other below there c
      | inr same ↦ here other (subst (λ (k : ℕ). Contains (list_at lanes k) other) same there) (subst (λ (k : ℕ). clash (eqb k own) n other ≡ true) same c)
    ]

-- what is not below the one is not below what that one isn't above
not_below_onward : (o a b : Numbers) → is_below o a ≡ false → is_below b a ≡ true → is_below o b ≡ false
not_below_onward o a b x y = false_from_ne_true _ (λ z. both_ways _ x (below_trans o b a z y))

not_below_either : (o a b : Numbers) → is_below o b ≡ false → is_below b a ≡ false → is_below o a ≡ false
not_below_either o a b x y = false_from_ne_true _ (λ z. both_ways _ x (below_onward o a b z y))

both_found : (lanes : List (List Numbers)) (own : ℕ) (n : Numbers) (upto : ℕ) (a b : Numbers) (below : Bool) → is_below b a ≡ below → Found lanes own n upto a → FirstClash (eqb upto own) n (list_at lanes upto) b
    → SoFar lanes own n (upto + 1) (cond below (Some b) (Some a))
both_found lanes own n upto a b true is x y = record {
  place = upto;
  booked = y.booked;
  clashes = y.clashes;
  least = least_more lanes own n upto b (λ p other lt there c. not_below_onward other a b (x.least p other lt there c) is) y.least;
}
both_found lanes own n upto a b false is x y = record {
  place = x.place;
  booked = x.booked;
  clashes = x.clashes;
  least = least_more lanes own n upto a x.least (λ other there c. not_below_either other a b (y.least other there c) is);
}

none_more : (lanes : List (List Numbers)) (own : ℕ) (n : Numbers) (upto : ℕ) → ((p : ℕ) → p < upto → NoClash (eqb p own) n (list_at lanes p)) → NoClash (eqb upto own) n (list_at lanes upto)
    → (p : ℕ) → p < upto + 1 → NoClash (eqb p own) n (list_at lanes p)
none_more lanes own n upto so_far none p lt b there =
    elim (last_or_before p upto lt) [
      | inl below ↦ so_far p below b there
      | inr same ↦ subst (λ (k : ℕ). clash (eqb k own) n b ≡ false) (sym same) (none b (subst (λ (k : ℕ). Contains (list_at lanes k) b) same there))
    ]

pub one_more : (lanes : List (List Numbers)) (own : ℕ) (n : Numbers) (upto : ℕ) (kept found : Option Numbers) → SoFar lanes own n upto kept → IfSome found (FirstClash (eqb upto own) n (list_at lanes upto)) → IfNone found (NoClash (eqb upto own) n (list_at lanes upto))
    → SoFar lanes own n (upto + 1) (lower_of kept found)
one_more lanes own n upto None None so_far some none = none_more lanes own n upto so_far none
one_more lanes own n upto None (Some b) so_far some none = record {
  place = upto;
  booked = some.booked;
  clashes = some.clashes;
  least = least_more lanes own n upto b (λ p other lt there c. absurd (both_ways _ (so_far p lt other there) c)) some.least;
}
one_more lanes own n upto (Some a) None so_far some none = record {
  place = so_far.place;
  booked = so_far.booked;
  clashes = so_far.clashes;
  least = least_more lanes own n upto a so_far.least (λ other there c. absurd (both_ways _ (none other there) c));
}
one_more lanes own n upto (Some a) (Some b) so_far some none = both_found lanes own n upto a b (is_below b a) refl so_far some

all_lanes : (lanes : List (List Numbers)) (own : ℕ) (n : Numbers) (upto : ℕ) (lane : Lane) (kept : Numbers) → length lanes ≤ upto → own ≡ lane_index lane → Breaks lanes lane n kept → (p : ℕ) × (p < upto) × Contains (list_at lanes p) kept × (clash (eqb p own) n kept ≡ true)
all_lanes lanes own n upto lane kept le is b =
    elim (cases_lt b.place upto) [
      | inl lt ↦ (b.place, lt, b.booked, subst (λ (k : ℕ). clash (eqb b.place k) n kept ≡ true) (sym is) b.clashes)
      | inr past ↦ absurd (none_past lanes b.place kept (omega arith) b.booked)
    ]

pub least_of_all : (lanes : List (List Numbers)) (own : ℕ) (n : Numbers) (upto : ℕ) (lane : Lane) (kept : Option Numbers) → length lanes ≤ upto → own ≡ lane_index lane → SoFar lanes own n upto kept → IfSome kept (LeastBreaks lanes lane n)
least_of_all lanes own n upto lane None le is so_far = tt
least_of_all lanes own n upto lane (Some kept) le is found = record {
  breaks = record { place = found.place; booked = found.booked; clashes = subst (λ (k : ℕ). IsTrue (clash (eqb found.place k) n kept)) is found.clashes };
  least = λ other b. let at = all_lanes lanes own n upto lane other le is b in found.least at.0 other at.1 at.2 at.3;
}

-- ---- making room

pub record RoomSoFar (old lanes : List (Vec Numbers)) (upto : ℕ) : Type 0 where
  pub lists : lists_of lanes ≡ lists_of old
  pub kept : HasRoom lanes 0
  pub room : AllWithin (λ v. vec_len v + 1 ≤ vec_capacity v) lanes 0 upto

same_items : (lanes : List (Vec Numbers)) (i : ℕ) (v : Vec Numbers) → i < length lanes → v.items ≡ list_at (lists_of lanes) i → lists_of (set lanes i v) ≡ lists_of lanes
same_items [] i v lt is = refl
same_items (x ∷ xs) zero v lt is = ap (λ (l : List Numbers). l ∷ lists_of xs) is
same_items (x ∷ xs) (suc i) v lt is = ap (λ (l : List (List Numbers)). x.items ∷ l) (same_items xs i v (omega arith) is)

pub items_at : (lanes : List (Vec Numbers)) (i : ℕ) (d : Vec Numbers) → i < length lanes → (get_or lanes i d).items ≡ list_at (lists_of lanes) i
items_at [] i d lt = absurd (omega arith)
items_at (x ∷ xs) zero d lt = refl
items_at (x ∷ xs) (suc i) d lt = items_at xs i d (omega arith)

-- ---- look-ups

pub none_at : (lanes : List (List Numbers)) (lane : Lane) (pos : ℕ) (list : List Numbers) (found : Option Numbers) → list ≡ list_of lanes lane → IfNone found ((n : Numbers) → Contains list n → n.pos ≡ pos → ⊥)
    → IfNone found ((n : Numbers) → BookedAt lanes lane pos n → ⊥)
none_at lanes lane pos list None is none = λ n b. none n (subst (λ (l : List Numbers). Contains l n) (sym is) b.booked) b.position
none_at lanes lane pos list (Some found) is none = tt

-- ---- one booking more

pub entered_lists : (lanes : List (Vec Numbers)) (i : ℕ) (v : Vec Numbers) (old : List Numbers) (done : Bool) (n : Numbers) → i < length lanes → old ≡ list_at (lists_of lanes) i → v.items ≡ cond done (entered_in n old) old
    → lists_of (set lanes i v) ≡ cond done (set (lists_of lanes) i (entered_in n (list_at (lists_of lanes) i))) (lists_of lanes)
entered_lists lanes i v old true n lt is items = map-set (λ (x : Vec Numbers). x.items) lanes i v ∙ ap (set (lists_of lanes) i) (items ∙ ap (entered_in n) is)
entered_lists lanes i v old false n lt is items = same_items lanes i v lt (items ∙ is)
