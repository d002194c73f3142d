-- For private contracts alone: what the crates below say of bookings, of windows that send, and of messages.
use Rattle.std.specs.Prelude.{◌≡◌, ℕ, suc, ◌<◌, ◌≤◌, ◌==◌, ◌||◌, true, false, List, length, Some, Ok}
use Rattle.std.specs.List.{Contains}
use Rattle.wl_elem.specs.declared.lane.Lane.{Lane}
use Rattle.wl_elem.specs.Lanes.{lane_index}
use Rattle.wl_message.specs.declared.message.Message.{Message}
use Rattle.wl_message.specs.Message.{message_octets, message_of, IsMessage}
use Rattle.wl_number.specs.declared.numbers.Numbers.{Numbers}
use Rattle.wl_number.specs.NumberObject.{NumberObject, drawn}
use Rattle.wl_elem.specs.Pairs.{pair_below}
use Rattle.wl_number.specs.OrderRule.{OrderRule, NoneBreaks, is_below, list_at, list_of, with_booking}
use Rattle.wl_window.specs.Originating.{Sending, Acked, Keeps, with_booked, acked, given_up, is_booked, booked_count}

-- what the crate of numbers says of them
pub record NumberLaws : Type 0 where
  pub entering : (lanes : List (List Numbers)) (lane : Lane) (n : Numbers) → lane_index lane < length lanes → OrderRule lanes → NoneBreaks lanes lane n → OrderRule (with_booking lanes lane n)
  pub highest : (lanes : List (List Numbers)) (lane : Lane) (n : Numbers) → ((place : ℕ) (b : Numbers) → Contains (list_at lanes place) b → is_below b n ≡ true)
      → ((b : Numbers) → Contains (list_of lanes lane) b → b.pos < n.pos) → NoneBreaks lanes lane n
  pub draw_above : (o : NumberObject) (lane : Lane) (b : Numbers) → pair_below o.key o.last b.key b.pn ≡ false → is_below b (drawn o lane) ≡ true
  pub not_back : (a b : Numbers) → is_below a b ≡ true → is_below b a ≡ false
  pub not_itself : (a : Numbers) → is_below a a ≡ false

-- what the crate of messages says of them
pub record MessageLaws : Type 0 where
  pub read : (m : Message) → IsMessage m → message_of (message_octets m) ≡ m
  pub short : (m : Message) → IsMessage m → length (message_octets m) ≤ 64

-- what the crate of windows says of them
pub record WindowLaws : Type 0 where
  pub booking : (s : Sending) (pos q : ℕ) → is_booked s pos ≡ false → is_booked (with_booked s pos) q ≡ (pos == q || is_booked s q)
  pub booking_counts : (s : Sending) (pos : ℕ) → is_booked s pos ≡ false → booked_count (with_booked s pos) ≡ suc (booked_count s)
  pub acking : (s : Sending) (start : ℕ) (stored : List ℕ) (a : Acked) → acked s start stored ≡ Some a → Keeps s a.sending
  pub giving_up : (s t : Sending) (to : ℕ) → given_up s to ≡ Ok t → Keeps s t
