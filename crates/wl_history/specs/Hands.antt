-- The hands of an end's threads, by thread number; a thread without an entry has an empty hand.
use Rattle.std.specs.Prelude.{ℕ, zero, suc, if◌then◌else◌, Bool, true, false, List, [], ◌∷◌}
use Rattle.wl_elem.specs.Lanes.{at_place}
use Rattle.wl_history.specs.declared.hand.Hand.{Hand}
use Rattle.wl_history.specs.declared.hand.Hand.TheVariants.{Empty, Reserve, Booking}

abbrev pub hand_of : List Hand → ℕ → Hand
hand_of [] thread = Empty
hand_of (hand ∷ hands) zero = hand
hand_of (hand ∷ hands) (suc thread) = hand_of hands thread

abbrev pub set_hand : ℕ → Hand → List Hand → List Hand
set_hand zero new [] = new ∷ []
set_hand zero new (hand ∷ hands) = new ∷ hands
set_hand (suc thread) new [] = Empty ∷ set_hand thread new []
set_hand (suc thread) new (hand ∷ hands) = hand ∷ set_hand thread new hands

-- whether a hand holds a reserve of the lane at this place
abbrev pub reserves : ℕ → Hand → Bool
reserves place Empty = false
reserves place (Reserve lane) = at_place lane place
reserves place (Booking lane numbers) = false

abbrev pub bit : Bool → ℕ
bit true = 1
bit false = 0

-- how many hands do
abbrev pub reserve_count : ℕ → List Hand → ℕ
reserve_count place [] = 0
reserve_count place (hand ∷ hands) = if reserves place hand then suc (reserve_count place hands) else reserve_count place hands
