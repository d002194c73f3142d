-- A reserve that takes numbers.
use Rattle.std.proofs.Common.{◌≡◌, ℕ, zero, suc, ◌<◌, ◌≤◌, Bool, true, false, List, [], ◌∷◌, length, refl, ap, ◌∙◌, arith, eq-eqb}
use Rattle.std.specs.Prelude.{◌==◌, if◌then◌else◌}
use Rattle.std.specs.List.{Contains}
use Rattle.std.proofs.lemmas.Bool.{ne_eqb, or_from}
use Rattle.wl_elem.specs.declared.lane.Lane.{Lane}
use Rattle.wl_elem.specs.Lanes.{lane_index, at_place}
use Rattle.wl_number.specs.declared.numbers.Numbers.{Numbers}
use Rattle.wl_number.specs.NumberObject.{NumberObject, position_of, drawn}
use Rattle.wl_elem.specs.Pairs.{pair_below}
use Rattle.wl_number.specs.OrderRule.{list_at, list_of, is_below, NoneBreaks}
use Rattle.wl_window.specs.Originating.{is_booked, booked_count}
use Rattle.wl_history.specs.declared.hand.Hand.{Hand}
use Rattle.wl_history.specs.declared.hand.Hand.TheVariants.{Empty, Reserve, Booking}
use Rattle.wl_history.specs.Hands.{hand_of, reserves, reserve_count}
use Rattle.wl_history.specs.Sender.{has_position}
use Rattle.wl_history.specs.EndState.{EndState, IsEnd, lane_at, with_hand}
use Rattle.wl_end.specs.Putting.{is_booking}

-- ---- what the crates of numbers say

abbrev pub DrawnAbove : Type 0
DrawnAbove = (o : NumberObject) (lane : Lane) (b : Numbers) → pair_below o.key o.last b.key b.pn ≡ false → is_below b (drawn o lane) ≡ true

abbrev pub HighestBreaksNone : Type 0
HighestBreaksNone = (lanes : List (List Numbers)) (lane : Lane) (n : Numbers) → ((place : ℕ) (b : Numbers) → Contains (list_at lanes place) b → is_below b n ≡ true)
    → ((b : Numbers) → Contains (list_of lanes lane) b → b.pos < n.pos) → NoneBreaks lanes lane n

at_own_place : (lane : Lane) → at_place lane (lane_index lane) ≡ true
at_own_place lane = eq-eqb (lane_index lane) (lane_index lane) refl

-- ---- what a reserve in a hand says

counted_first : (b : Bool) (n : ℕ) → b ≡ true → 1 ≤ (if b then suc n else n)
counted_first true n is = omega arith
counted_first false n is = absurd (cc is)

counted_rest : (b : Bool) (n : ℕ) → 1 ≤ n → 1 ≤ (if b then suc n else n)
counted_rest true n le = omega arith
counted_rest false n le = le

reserve_is_counted : (hands : List Hand) (thread : ℕ) (lane : Lane) → hand_of hands thread ≡ Reserve lane → 1 ≤ reserve_count (lane_index lane) hands
reserve_is_counted [] thread lane is = absurd (cc is)
reserve_is_counted (hand ∷ hands) zero lane is = counted_first (reserves (lane_index lane) hand) (reserve_count (lane_index lane) hands) (ap (reserves (lane_index lane)) is ∙ at_own_place lane)
reserve_is_counted (hand ∷ hands) (suc thread) lane is = counted_rest (reserves (lane_index lane) hand) (reserve_count (lane_index lane) hands) (reserve_is_counted hands thread lane is)

pub some_to_book : (s : EndState) (thread : ℕ) (lane : Lane) → IsEnd s → hand_of s.hands thread ≡ Reserve lane → booked_count (lane_at s (lane_index lane)).sending < (lane_at s (lane_index lane)).sending.granted
some_to_book s thread lane is held =
    let k = lane_index lane in
    omega (arith, is.sender.numbered k, is.sender.counted k, reserve_is_counted s.hands thread lane held)

lower_is_absent : (list : List Numbers) (pos : ℕ) → ((n : Numbers) → Contains list n → n.pos < pos) → has_position pos list ≡ false
lower_is_absent [] pos lower = refl
lower_is_absent (n ∷ ns) pos lower =
    or_from (n.pos == pos) (has_position pos ns)
    (let lt : n.pos < pos = lower n (0, omega arith, refl) in ne_eqb n.pos pos (λ e. omega arith))
    (lower_is_absent ns pos (λ m there. lower m (suc there.0, omega (arith, there.1), there.2)))

pub next_is_free : (s : EndState) (lane : Lane) (pos : ℕ) → IsEnd s → pos ≡ position_of s.numbers lane → is_booked (lane_at s (lane_index lane)).sending pos ≡ false
next_is_free s lane pos is next =
    let k = lane_index lane in
    is.sender.marked k pos ∙ lower_is_absent (list_at s.booked k) pos (λ n there. omega (arith, next, is.sender.above k n there))

pub draw_breaks_none : HighestBreaksNone → DrawnAbove → (s : EndState) (lane : Lane) → IsEnd s → NoneBreaks s.booked lane (drawn s.numbers lane)
draw_breaks_none highest above s lane is =
    highest s.booked lane (drawn s.numbers lane)
    (λ place b there. above s.numbers lane b (is.sender.last place b there))
    (is.sender.above (lane_index lane))

-- the position that a reserve is booked at is one of the queue
pub next_is_queued : (s : EndState) (thread : ℕ) (lane : Lane) → IsEnd s → hand_of s.hands thread ≡ Reserve lane → position_of s.numbers lane < length (lane_at s (lane_index lane)).queue
next_is_queued s thread lane is held =
    let k = lane_index lane in
    omega (arith, is.gapless.next k, is.sender.counted k, is.sender.within k, reserve_is_counted s.hands thread lane held)

-- ---- a booking leaves a hand

abbrev pub PutDownKeeps : Type 0
PutDownKeeps = (s : EndState) (thread : ℕ) (lane : Lane) (n : Numbers) → IsEnd s → hand_of s.hands thread ≡ Booking lane n → IsEnd (with_hand thread Empty s)

booking_put_down : PutDownKeeps → (s : EndState) (thread : ℕ) (h : Hand) → IsEnd s → hand_of s.hands thread ≡ h → is_booking h ≡ true → IsEnd (with_hand thread Empty s)
booking_put_down law s thread Empty is held booking = absurd (cc booking)
booking_put_down law s thread (Reserve lane) is held booking = absurd (cc booking)
booking_put_down law s thread (Booking lane n) is held booking = law s thread lane n is held

pub any_put_down : PutDownKeeps → (s : EndState) (thread : ℕ) → IsEnd s → is_booking (hand_of s.hands thread) ≡ true → IsEnd (with_hand thread Empty s)
any_put_down law s thread is booking = booking_put_down law s thread (hand_of s.hands thread) is refl booking
