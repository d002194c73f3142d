-- What each command does to an end that sends.
use Rattle.std.proofs.Common.{◌≡◌, ℕ, ◌+◌, ◌<◌, ◌≤◌, false, List, length, sym, ap, subst, ◌∙◌, arith, inl, inr}
use Rattle.std.specs.Prelude.{◌==◌, ◌&&◌, nat_lt}
use Rattle.std.proofs.lemmas.Bool.{cases_eq, cases_lt, both_ways, or_left, or_from, and_left, le-ltb, lt-ltb, ne_eqb}
use Rattle.wl_elem.specs.Pairs.{pair_below}
use Rattle.wl_elem.specs.declared.lane.Lane.{Lane}
use Rattle.wl_elem.specs.declared.lane.Lane.TheVariants as lanes
use Rattle.wl_elem.specs.Lanes.{lane_index, lane_count, at_place, IsLane}
use Rattle.wl_number.specs.declared.numbers.Numbers.{Numbers}
use Rattle.wl_number.specs.NumberObject.{NumberObject, turned}
use Rattle.wl_window.specs.Originating.{Sending, Keeps, is_booked, booked_count}
use Rattle.wl_history.specs.declared.hand.Hand.{Hand}
use Rattle.wl_history.specs.declared.hand.Hand.TheVariants as hand
use Rattle.wl_history.specs.Hands.{hand_of, set_hand, reserves, bit}
use Rattle.wl_history.specs.Sender.{IsHeld, IsSender, Regranted}
use Rattle.wl_history.proofs.Hands.{hand_set, hand_kept, count_set}

pub lane_within : (lane : Lane) → IsLane lane → lane_index lane < lane_count
lane_within (lanes.Tid tid) h = omega arith
lane_within lanes.Management h = omega arith

-- what isn't above a pair isn't above one of the next key
above_all : (key last k pn : ℕ) → pair_below key last k pn ≡ false → pair_below (key + 1) 0 k pn ≡ false
above_all key last k pn is =
    elim (cases_lt key k) [
      | inl lt ↦ absurd (both_ways (pair_below key last k pn) is (or_left (nat_lt key k) (key == k && nat_lt last pn) (lt-ltb key k lt)))
      | inr le ↦ or_from (nat_lt (key + 1) k) (key + 1 == k && nat_lt 0 pn) (le-ltb (key + 1) k (omega (arith, le))) (and_left (key + 1 == k) (nat_lt 0 pn) (ne_eqb (key + 1) k (λ e. omega (arith, e, le))))
    ]

-- queues that grow, and windows that keep what is booked
pub still_sender : (queue queue' : ℕ → List (List ℕ)) (hands : List Hand) (o : NumberObject) (lanes : List (List Numbers)) (sending sending' : ℕ → Sending)
    → ((l : ℕ) → length (queue l) ≤ length (queue' l)) → ((l : ℕ) → Keeps (sending l) (sending' l)) → IsSender queue hands o lanes sending → IsSender queue' hands o lanes sending'
still_sender queue queue' hands o lanes sending sending' more same s = record {
  nine = s.nine;
  nine_positions = s.nine_positions;
  rule = s.rule;
  last = s.last;
  above = s.above;
  queued = λ l n is. omega (arith, s.queued l n is, more l);
  marked = λ l pos. (same l).marks pos ∙ s.marked l pos;
  numbered = λ l. (same l).counts ∙ s.numbered l;
  counted = λ l. (same l).granted ∙ s.counted l;
  within = λ l. omega (arith, (same l).granted, s.within l, more l);
  held = s.held;
  of_lanes = s.of_lanes;
}

-- a turn to the next key, under which no packet number is used
pub turned_sender : (queue : ℕ → List (List ℕ)) (hands : List Hand) (o : NumberObject) (lanes : List (List Numbers)) (sending : ℕ → Sending)
    → IsSender queue hands o lanes sending → IsSender queue hands (turned o) lanes sending
turned_sender queue hands o lanes sending s = record {
  nine = s.nine;
  nine_positions = s.nine_positions;
  rule = s.rule;
  last = λ place n is. above_all o.key o.last n.key n.pn (s.last place n is);
  above = s.above;
  queued = s.queued;
  marked = s.marked;
  numbered = s.numbered;
  counted = s.counted;
  within = s.within;
  held = s.held;
  of_lanes = s.of_lanes;
}

-- ---- hands that change

-- a thread's hand that is set to another than a booking holds none
pub held_after : (thread : ℕ) (new : Hand) (hands : List Hand) (lanes : List (List Numbers))
    → ((lane : Lane) (n : Numbers) → new ≡ hand.Booking lane n → IsHeld lanes lane n)
    → ((thread : ℕ) (lane : Lane) (n : Numbers) → hand_of hands thread ≡ hand.Booking lane n → IsHeld lanes lane n)
    → (other : ℕ) (lane : Lane) (n : Numbers) → hand_of (set_hand thread new hands) other ≡ hand.Booking lane n → IsHeld lanes lane n
held_after thread new hands lanes fresh old other lane n is =
    elim (cases_eq thread other) [
      | inl same ↦ fresh lane n (sym (hand_set thread new hands) ∙ ap (hand_of (set_hand thread new hands)) same ∙ is)
      | inr ne ↦ old other lane n (sym (hand_kept thread other new hands ne) ∙ is)
    ]

pub of_lanes_after : (thread : ℕ) (new : Hand) (hands : List Hand)
    → ((lane : Lane) → new ≡ hand.Reserve lane → IsLane lane)
    → ((thread : ℕ) (lane : Lane) → hand_of hands thread ≡ hand.Reserve lane → IsLane lane)
    → (other : ℕ) (lane : Lane) → hand_of (set_hand thread new hands) other ≡ hand.Reserve lane → IsLane lane
of_lanes_after thread new hands fresh old other lane is =
    elim (cases_eq thread other) [
      | inl same ↦ fresh lane (sym (hand_set thread new hands) ∙ ap (hand_of (set_hand thread new hands)) same ∙ is)
      | inr ne ↦ old other lane (sym (hand_kept thread other new hands ne) ∙ is)
    ]

regranted_marks : (s t : Sending) → Regranted s t → (pos : ℕ) → is_booked t pos ≡ is_booked s pos
regranted_marks s t h pos =
    let there : (base : ℕ) → is_booked (record { granted = t.granted; base = base; marks = t.marks }) pos ≡ is_booked (record { granted = s.granted; base = base; marks = s.marks }) pos
    = λ base. ap (λ ms. is_booked (record { granted = s.granted; base = base; marks = ms }) pos) h.marks in
    there t.base ∙ ap (λ (base : ℕ). is_booked (record { granted = s.granted; base = base; marks = s.marks }) pos) h.base

regranted_counts : (s t : Sending) → Regranted s t → booked_count t ≡ booked_count s
regranted_counts s t h =
    ap (λ ms. booked_count (record { granted = s.granted; base = t.base; marks = ms })) h.marks ∙ ap (λ (base : ℕ). booked_count (record { granted = s.granted; base = base; marks = s.marks })) h.base

-- a hand that is put down, and what a reserve in it had granted
pub emptied : (thread : ℕ) (queue : ℕ → List (List ℕ)) (hands : List Hand) (o : NumberObject) (lanes : List (List Numbers)) (sending sending' : ℕ → Sending)
    → ((l : ℕ) → Regranted (sending l) (sending' l))
    → ((l : ℕ) → (sending' l).granted + bit (reserves l (hand_of hands thread)) ≡ (sending l).granted)
    → IsSender queue hands o lanes sending → IsSender queue (set_hand thread hand.Empty hands) o lanes sending'
emptied thread queue hands o lanes sending sending' same back s = record {
  nine = s.nine;
  nine_positions = s.nine_positions;
  rule = s.rule;
  last = s.last;
  above = s.above;
  queued = s.queued;
  marked = λ l pos. regranted_marks (sending l) (sending' l) (same l) pos ∙ s.marked l pos;
  numbered = λ l. regranted_counts (sending l) (sending' l) (same l) ∙ s.numbered l;
  counted = λ l. omega (arith, back l, s.counted l, count_set l thread hand.Empty hands);
  within = λ l. omega (arith, back l, s.within l);
  held = held_after thread hand.Empty hands lanes (λ lane n e. absurd (cc e)) s.held;
  of_lanes = of_lanes_after thread hand.Empty hands (λ lane e. absurd (cc e)) s.of_lanes;
}

-- a reserve of a lane, in a hand that was empty
pub reserving : (thread : ℕ) (lane : Lane) (queue : ℕ → List (List ℕ)) (hands : List Hand) (o : NumberObject) (lanes : List (List Numbers)) (sending sending' : ℕ → Sending)
    → IsLane lane → hand_of hands thread ≡ hand.Empty
    → ((l : ℕ) → Regranted (sending l) (sending' l)) → ((l : ℕ) → (sending' l).granted ≡ (sending l).granted + bit (at_place lane l)) → ((l : ℕ) → (sending' l).granted ≤ length (queue l))
    → IsSender queue hands o lanes sending → IsSender queue (set_hand thread (hand.Reserve lane) hands) o lanes sending'
reserving thread lane queue hands o lanes sending sending' lt empty same more within s = record {
  nine = s.nine;
  nine_positions = s.nine_positions;
  rule = s.rule;
  last = s.last;
  above = s.above;
  queued = s.queued;
  marked = λ l pos. regranted_marks (sending l) (sending' l) (same l) pos ∙ s.marked l pos;
  numbered = λ l. regranted_counts (sending l) (sending' l) (same l) ∙ s.numbered l;
  counted = λ l. omega (arith, more l, s.counted l, count_set l thread (hand.Reserve lane) hands, ap (λ (h : Hand). bit (reserves l h)) empty);
  within = within;
  held = held_after thread (hand.Reserve lane) hands lanes (λ m n e. absurd (cc e)) s.held;
  of_lanes = of_lanes_after thread (hand.Reserve lane) hands (λ m e. let same : lane ≡ m = cc in subst (λ (x : Lane). IsLane x) same lt) s.of_lanes;
}
