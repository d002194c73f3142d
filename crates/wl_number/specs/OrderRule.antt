-- The order of the bookings of an end. They are nine lists, one a lane in the order of `lane_index`,
-- each in ascending order of position. Under one key a packet number is used once (IEEE Std 802.11,
-- 12.5.3.3), and within a lane frames go up in the order of both.
use Rattle.std.specs.Prelude.{◌≡◌, ◌≢◌, ℕ, ◌<◌, ◌==◌, ◌&&◌, ◌||◌, nat_lt, if◌then◌else◌, Bool, false, IsTrue, List, [], ◌∷◌, slice_index_or, slice_set}
use Rattle.std.specs.List.{AllByRecursion, Contains}
use Rattle.wl_elem.specs.declared.lane.Lane.{Lane}
use Rattle.wl_elem.specs.Lanes.{lane_index}
use Rattle.wl_elem.specs.Pairs.{pair_below}
use Rattle.wl_number.specs.declared.numbers.Numbers.{Numbers}

-- the pair of the first is below that of the second
abbrev pub is_below : Numbers → Numbers → Bool
is_below a b = pair_below a.key a.pn b.key b.pn

abbrev pub same_pair : Numbers → Numbers → Bool
same_pair a b = a.key == b.key && a.pn == b.pn

-- of one lane, the first comes before the second by position and by pair
pub record Precedes (a b : Numbers) : Type 0 where
  pub position : a.pos < b.pos
  pub pair : IsTrue (is_below a b)

-- each booking comes before all that follow it
abbrev pub Ascending : List Numbers → Type 0
Ascending [] = Unit {0}
Ascending (x ∷ xs) = AllByRecursion (Precedes x) xs × Ascending xs

abbrev pub list_at : List (List Numbers) → ℕ → List Numbers
list_at lanes place = slice_index_or lanes place []

abbrev pub list_of : List (List Numbers) → Lane → List Numbers
list_of lanes lane = list_at lanes (lane_index lane)

-- Two bookings of an end have different pairs. Two of one lane have different positions and stand in
-- the same order by position as by pair.
pub record OrderRule (lanes : List (List Numbers)) : Type 0 where
  pub ascending : (place : ℕ) → Ascending (list_at lanes place)
  pub apart : (place other : ℕ) (a b : Numbers) → place ≢ other → Contains (list_at lanes place) a → Contains (list_at lanes other) b → same_pair a b ≡ false

-- of one lane, the two stand in one order by position and in the other by pair
abbrev pub crossed : Numbers → Numbers → Bool
crossed a b = (nat_lt a.pos b.pos && is_below b a) || (nat_lt b.pos a.pos && is_below a b)

-- the two can't both be booked, of the same lane or of two
abbrev pub clash : Bool → Numbers → Numbers → Bool
clash own a b = same_pair a b || (own && (a.pos == b.pos || crossed a b))

-- the numbers on the lane would break the rule with this booking
pub record Breaks (lanes : List (List Numbers)) (lane : Lane) (n kept : Numbers) : Type 0 where
  pub place : ℕ
  pub booked : Contains (list_at lanes place) kept
  pub clashes : IsTrue (clash (place == lane_index lane) n kept)

-- the rule stands with the numbers on the lane
abbrev pub NoneBreaks : List (List Numbers) → Lane → Numbers → Type 0
NoneBreaks lanes lane n = (kept : Numbers) → Breaks lanes lane n kept → ⊥

-- of the bookings that the numbers would break the rule with, the one of least pair
pub record LeastBreaks (lanes : List (List Numbers)) (lane : Lane) (n kept : Numbers) : Type 0 where
  pub breaks : Breaks lanes lane n kept
  pub least : (other : Numbers) → Breaks lanes lane n other → is_below other kept ≡ false

-- a lane's list with the numbers at their place by position
abbrev pub entered_in : Numbers → List Numbers → List Numbers
entered_in n [] = n ∷ []
entered_in n (x ∷ xs) = if nat_lt x.pos n.pos then x ∷ entered_in n xs else n ∷ x ∷ xs

-- the bookings with the numbers on the lane
abbrev pub with_booking : List (List Numbers) → Lane → Numbers → List (List Numbers)
with_booking lanes lane n = slice_set lanes (lane_index lane) (entered_in n (list_of lanes lane))
