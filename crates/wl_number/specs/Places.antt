-- For private contracts alone: places in a lane's ascending list.
use Rattle.std.specs.Prelude.{◌≡◌, ℕ, ◌≤◌, ◌&&◌, nat_lt, Bool, true, false, IsTrue, List, length, Option, Some, None, if◌then◌else◌}
use Rattle.std.specs.List.{AllWithin, Contains}
use Rattle.wl_number.specs.declared.numbers.Numbers.{Numbers}
use Rattle.wl_elem.specs.Pairs.{pair_below}
use Rattle.wl_number.specs.OrderRule.{is_below, clash}

-- the bookings before this place pass the test, and those from it on don't
pub record IsPlace (test : Numbers → Bool) (list : List Numbers) (place : ℕ) : Type 0 where
  pub within : place ≤ length list
  pub before : AllWithin (λ b. test b ≡ true) list 0 place
  pub after : AllWithin (λ b. test b ≡ false) list place (length list)

abbrev pub has_lower_position : ℕ → Numbers → Bool
has_lower_position pos b = nat_lt b.pos pos

abbrev pub has_lower_pair : ℕ → ℕ → Numbers → Bool
has_lower_pair key pn b = pair_below b.key b.pn key pn

-- the booking is below the numbers by pair and, in the own lane, by position
abbrev pub comes_before : Bool → Numbers → Numbers → Bool
comes_before true n b = has_lower_pair n.key n.pn b && has_lower_position n.pos b
comes_before false n b = has_lower_pair n.key n.pn b

-- no booking of the list clashes with the numbers
abbrev pub NoClash : Bool → Numbers → List Numbers → Type 0
NoClash own n list = (b : Numbers) → Contains list b → clash own n b ≡ false

-- of the bookings of the list that clash with the numbers, the one of least pair
pub record FirstClash (own : Bool) (n : Numbers) (list : List Numbers) (kept : Numbers) : Type 0 where
  pub booked : Contains list kept
  pub clashes : IsTrue (clash own n kept)
  pub least : (b : Numbers) → Contains list b → IsTrue (clash own n b) → is_below b kept ≡ false

-- the one of lower pair of those that are there, of two alike the first
abbrev pub lower_of : Option Numbers → Option Numbers → Option Numbers
lower_of None found = found
lower_of (Some a) None = Some a
lower_of (Some a) (Some b) = if is_below b a then Some b else Some a
