-- A booking of the next numbers.
use Rattle.std.proofs.Common.{◌≡◌, ℕ, suc, ◌+◌, ◌<◌, ◌≤◌, Bool, true, false, eq-eqb, List, [], ◌∷◌, length, get_or, refl, sym, ap, subst, ◌∙◌, arith, inl, inr}
use Rattle.std.specs.Prelude.{◌⊎◌, ◌==◌, ◌||◌, nat_lt, if◌then◌else◌}
use Rattle.std.proofs.lemmas.Bool.{eqb-true, ne_eqb}
use Rattle.std.specs.List.{Contains}
use Rattle.std.proofs.lemmas.List.{length-set}
use Rattle.wl_elem.specs.declared.lane.Lane.{Lane}
use Rattle.wl_elem.specs.Lanes.{lane_index, lane_count, at_place, IsLane}
use Rattle.wl_number.specs.declared.numbers.Numbers.{Numbers}
use Rattle.wl_number.specs.NumberObject.{NumberObject, position_of, drawn, after_draw}
use Rattle.wl_number.specs.OrderRule.{is_below, list_at, list_of, entered_in, with_booking}
use Rattle.wl_history.specs.declared.hand.Hand.{Hand}
use Rattle.wl_history.specs.declared.hand.Hand.TheVariants as hand
use Rattle.wl_history.specs.Hands.{hand_of, set_hand, reserves, bit}
use Rattle.wl_history.proofs.Lanes.{set_at, list_with, same_list, entered_is_there, others_are_there, entered_cases, length_entered}
use Rattle.wl_history.proofs.Hands.{count_set}
use Rattle.wl_window.specs.Originating.{Sending, with_booked, is_booked, booked_count}
use Rattle.wl_history.specs.Sender.{IsHeld, IsSender, IsGapless, has_position}
use Rattle.wl_history.specs.Below.{NumberLaws, WindowLaws}
use Rattle.wl_history.proofs.Sender.{lane_within, held_after, of_lanes_after}

-- ---- what a lane's list has then

pub booked_there : (lanes : List (List Numbers)) (lane : Lane) (n : Numbers) → lane_index lane < length lanes → Contains (list_of (with_booking lanes lane n) lane) n
booked_there lanes lane n lt =
    subst (λ (l : List Numbers). Contains l n) (sym (list_with lanes lane (lane_index lane) n lt ∙ ap (λ (b : Bool). if b then entered_in n (list_of lanes lane) else list_of lanes lane) (eq-eqb (lane_index lane) (lane_index lane) refl)))
    (entered_is_there n (list_of lanes lane))

either_there : (b : Bool) (lanes : List (List Numbers)) (lane : Lane) (m : ℕ) (n k : Numbers) → at_place lane m ≡ b → Contains (list_at lanes m) k → Contains (if b then entered_in n (list_of lanes lane) else list_at lanes m) k
either_there true lanes lane m n k e is = others_are_there n (list_of lanes lane) k (subst (λ (l : List Numbers). Contains l k) (sym (same_list lanes lane m e)) is)
either_there false lanes lane m n k e is = is

pub still_booked : (lanes : List (List Numbers)) (lane : Lane) (m : ℕ) (n k : Numbers) → lane_index lane < length lanes → Contains (list_at lanes m) k → Contains (list_at (with_booking lanes lane n) m) k
still_booked lanes lane m n k lt is = subst (λ (l : List Numbers). Contains l k) (sym (list_with lanes lane m n lt)) (either_there (at_place lane m) lanes lane m n k refl is)

-- a booking of a place is the new one, or was there
either_place : (b : Bool) (lanes : List (List Numbers)) (lane : Lane) (place : ℕ) (n k : Numbers) → Contains (if b then entered_in n (list_of lanes lane) else list_at lanes place) k → (k ≡ n) ⊎ ((old : ℕ) × Contains (list_at lanes old) k)
either_place true lanes lane place n k is = elim (entered_cases n (list_of lanes lane) k is) [ inl same ↦ inl same | inr old ↦ inr (lane_index lane, old) ]
either_place false lanes lane place n k is = inr (place, is)

place_cases : (lanes : List (List Numbers)) (lane : Lane) (place : ℕ) (n k : Numbers) → lane_index lane < length lanes → Contains (list_at (with_booking lanes lane n) place) k → (k ≡ n) ⊎ ((old : ℕ) × Contains (list_at lanes old) k)
place_cases lanes lane place n k lt is = either_place (at_place lane place) lanes lane place n k (subst (λ (l : List Numbers). Contains l k) (list_with lanes lane place n lt) is)

-- ---- positions

either_position : (b : Bool) (o : NumberObject) (lanes : List (List Numbers)) (lane : Lane) (m : ℕ) (n : Numbers) → at_place lane m ≡ b → position_of o lane ≡ length (list_of lanes lane) → get_or o.positions m 0 ≡ length (list_at lanes m)
    → (if b then position_of o lane + 1 else get_or o.positions m 0) ≡ length (if b then entered_in n (list_of lanes lane) else list_at lanes m)
either_position true o lanes lane m n e here there = omega (arith, here, length_entered n (list_of lanes lane))
either_position false o lanes lane m n e here there = there

-- the positions of a lane then: that of the new booking, and those that it had
either_booked : (b : Bool) (lanes : List (List Numbers)) (lane : Lane) (m : ℕ) (n k : Numbers) (P : ℕ → Type 0) → at_place lane m ≡ b → (b ≡ true → P n.pos)
    → ((j : Numbers) → Contains (list_at lanes m) j → P j.pos) → Contains (if b then entered_in n (list_of lanes lane) else list_at lanes m) k → P k.pos
either_booked true lanes lane m n k P e here there is =
    elim (entered_cases n (list_of lanes lane) k is) [
      | inl same ↦ subst (λ (x : Numbers). P x.pos) (sym same) (here refl)
      | inr old ↦ there k (subst (λ (l : List Numbers). Contains l k) (same_list lanes lane m e) old)
    ]
either_booked false lanes lane m n k P e here there is = there k is

-- the position that comes next isn't below what it was, and on the booking's lane is above it
either_next : (b : Bool) (o : NumberObject) (lane : Lane) (m : ℕ) → at_place lane m ≡ b → get_or o.positions m 0 ≤ (if b then position_of o lane + 1 else get_or o.positions m 0)
either_next true o lane m e = let same : position_of o lane ≡ get_or o.positions m 0 = ap (λ (j : ℕ). get_or o.positions j 0) (eqb-true (lane_index lane) m e) in omega (arith, same)
either_next false o lane m e = omega arith

either_length : (b : Bool) (lanes : List (List Numbers)) (lane : Lane) (m : ℕ) (n : Numbers) → at_place lane m ≡ b → length (if b then entered_in n (list_of lanes lane) else list_at lanes m) ≡ length (list_at lanes m) + bit b
either_length true lanes lane m n e = omega (arith, length_entered n (list_of lanes lane), ap (λ (l : List Numbers). length l) (same_list lanes lane m e))
either_length false lanes lane m n e = omega arith

-- ---- what the window knows

position_entered : (n : Numbers) (ns : List Numbers) (q : ℕ) → has_position q (entered_in n ns) ≡ (n.pos == q || has_position q ns)
position_entered n [] q = refl
position_entered n (x ∷ xs) q =
    elim (nat_lt x.pos n.pos) as (λ (b : Bool). has_position q (if b then x ∷ entered_in n xs else n ∷ x ∷ xs) ≡ (n.pos == q || (x.pos == q || has_position q xs))) [
      | true ↦ ap (λ (b : Bool). x.pos == q || b) (position_entered n xs q) ∙ swap (x.pos == q) (n.pos == q) (has_position q xs)
      | false ↦ refl
    ]
  where
    swap : (a b c : Bool) → (a || (b || c)) ≡ (b || (a || c))
    swap true true c = refl
    swap true false c = refl
    swap false true c = refl
    swap false false c = refl

none_at : (ns : List Numbers) (pos : ℕ) → ((n : Numbers) → Contains ns n → n.pos < pos) → has_position pos ns ≡ false
none_at [] pos below = refl
none_at (n ∷ ns) pos below =
    let here : (n.pos == pos) ≡ false = ne_eqb n.pos pos (λ e. let lt = below n (0, omega arith, refl) in omega (arith, e, lt)) in
    let more : has_position pos ns ≡ false = none_at ns pos (λ m is. below m (suc is.0, omega (arith, is.1), is.2)) in
    rw here more

module _ (laws : NumberLaws) (windows : WindowLaws) (thread : ℕ) (lane : Lane) (queue : ℕ → List (List ℕ)) (hands : List Hand) (o : NumberObject) (lanes : List (List Numbers)) (sending sending' : ℕ → Sending) where
  abbrev n : Numbers
  n = drawn o lane

  below_n : IsSender queue hands o lanes sending → (place : ℕ) (k : Numbers) → Contains (list_at lanes place) k → is_below k n ≡ true
  below_n s place k is = laws.draw_above o lane k (s.last place k is)

  last_after : IsSender queue hands o lanes sending → lane_index lane < length lanes → (place : ℕ) (k : Numbers) → Contains (list_at (with_booking lanes lane n) place) k → is_below n k ≡ false
  last_after s lt place k is =
      elim (place_cases lanes lane place n k lt is) [
        | inl same ↦ subst (λ (x : Numbers). is_below n x ≡ false) (sym same) (laws.not_itself n)
        | inr old ↦ laws.not_back k n (below_n s old.0 k old.1)
      ]

  abbrev Booked : ℕ → Type 0
  Booked l = sending' l ≡ (if at_place lane l then with_booked (sending l) n.pos else sending l)

  free_here : IsSender queue hands o lanes sending → is_booked (sending (lane_index lane)) n.pos ≡ false
  free_here s = s.marked (lane_index lane) n.pos ∙ none_at (list_of lanes lane) n.pos (s.above (lane_index lane))

  free_at : IsSender queue hands o lanes sending → (l : ℕ) → at_place lane l ≡ true → is_booked (sending l) n.pos ≡ false
  free_at s l same = subst (λ (m : ℕ). is_booked (sending m) n.pos ≡ false) (eqb-true (lane_index lane) l same) (free_here s)

  either_marked : IsSender queue hands o lanes sending → (b : Bool) (l pos : ℕ) → at_place lane l ≡ b
      → is_booked (if b then with_booked (sending l) n.pos else sending l) pos ≡ has_position pos (if b then entered_in n (list_of lanes lane) else list_at lanes l)
  either_marked s true l pos e =
      windows.booking (sending l) n.pos pos (free_at s l e) ∙ ap (λ (b : Bool). n.pos == pos || b) (s.marked l pos ∙ ap (has_position pos) (sym (same_list lanes lane l e)))
      ∙ sym (position_entered n (list_of lanes lane) pos)
  either_marked s false l pos e = s.marked l pos

  either_counts : IsSender queue hands o lanes sending → (b : Bool) (l : ℕ) → at_place lane l ≡ b
      → booked_count (if b then with_booked (sending l) n.pos else sending l) ≡ length (if b then entered_in n (list_of lanes lane) else list_at lanes l)
  either_counts s true l e =
      let more = windows.booking_counts (sending l) n.pos (free_at s l e) in
      let same = ap (λ (ns : List Numbers). length ns) (same_list lanes lane l e) in
      omega (arith, more, s.numbered l, same, length_entered n (list_of lanes lane))
  either_counts s false l e = s.numbered l

  either_granted : (b : Bool) (l : ℕ) → (if b then with_booked (sending l) n.pos else sending l).granted ≡ (sending l).granted
  either_granted true l = refl
  either_granted false l = refl

  -- the reserve in the hand was granted beyond all that are booked
  next_queued : IsGapless o lanes → hand_of hands thread ≡ hand.Reserve lane → IsSender queue hands o lanes sending → n.pos < length (queue (lane_index lane))
  next_queued gapless reserved s =
      let k = lane_index lane in
      let own : at_place lane k ≡ true = eq-eqb k k refl in
      omega (arith, gapless.next k, s.counted k, s.within k, count_set k thread (hand.Booking lane n) hands, ap (λ (h : Hand). bit (reserves k h)) reserved, ap bit own)

  pub booking : hand_of hands thread ≡ hand.Reserve lane → ((l : ℕ) → Booked l) → IsGapless o lanes → IsSender queue hands o lanes sending
      → IsSender queue (set_hand thread (hand.Booking lane n) hands) (after_draw o lane) (with_booking lanes lane n) sending'
  booking reserved after gapless s =
      let of_lane : IsLane lane = s.of_lanes thread lane reserved in
      let lt : lane_index lane < lane_count = lane_within lane of_lane in
      let within : lane_index lane < length lanes = omega (arith, lt, s.nine) in
      let queued_next = next_queued gapless reserved s in
      record {
        nine = length-set lanes (lane_index lane) (entered_in n (list_of lanes lane)) ∙ s.nine;
        nine_positions = length-set o.positions (lane_index lane) (position_of o lane + 1) ∙ s.nine_positions;
        rule = laws.entering lanes lane n within s.rule (laws.highest lanes lane n (below_n s) (s.above (lane_index lane)));
        last = last_after s within;
        above = λ m k is.
            subst (λ (next : ℕ). k.pos < next) (sym (set_at o.positions (lane_index lane) m (position_of o lane + 1) 0 (omega (arith, lt, s.nine_positions))))
            (either_booked (at_place lane m) lanes lane m n k (λ pos. pos < (if at_place lane m then position_of o lane + 1 else get_or o.positions m 0)) refl
            (λ e. subst (λ (b : Bool). n.pos < (if b then position_of o lane + 1 else get_or o.positions m 0)) (sym e) (omega arith))
            (λ j there. omega (arith, s.above m j there, either_next (at_place lane m) o lane m refl))
            (subst (λ (l : List Numbers). Contains l k) (list_with lanes lane m n within) is));
        queued = λ m k is.
            either_booked (at_place lane m) lanes lane m n k (λ pos. pos < length (queue m)) refl
            (λ e. subst (λ (j : ℕ). n.pos < length (queue j)) (eqb-true (lane_index lane) m e) queued_next) (s.queued m)
            (subst (λ (l : List Numbers). Contains l k) (list_with lanes lane m n within) is);
        marked = λ m pos.
            ap (λ (t : Sending). is_booked t pos) (after m) ∙ either_marked s (at_place lane m) m pos refl ∙ ap (has_position pos) (sym (list_with lanes lane m n within));
        numbered = λ m.
            ap booked_count (after m) ∙ either_counts s (at_place lane m) m refl ∙ ap (λ (l : List Numbers). length l) (sym (list_with lanes lane m n within));
        counted = λ m.
            let counts = count_set m thread (hand.Booking lane n) hands in
            let was = ap (λ (h : Hand). bit (reserves m h)) reserved in
            let longer = ap (λ (l : List Numbers). length l) (list_with lanes lane m n within) ∙ either_length (at_place lane m) lanes lane m n refl in
            let granted = ap (λ (t : Sending). t.granted) (after m) ∙ either_granted (at_place lane m) m in
            omega (arith, s.counted m, counts, was, longer, granted);
        within = λ m. let granted = ap (λ (t : Sending). t.granted) (after m) ∙ either_granted (at_place lane m) m in omega (arith, granted, s.within m);
        held = held_after thread (hand.Booking lane n) hands (with_booking lanes lane n)
            (λ m k e. let same : lane ≡ m = cc in let numbers : n ≡ k = cc in subst (λ (x : Lane). IsHeld (with_booking lanes lane n) x k) same (subst (λ (x : Numbers). IsHeld (with_booking lanes lane n) lane x) numbers (booked_there lanes lane n within, of_lane)))
            (λ other m k is. let was = s.held other m k is in (still_booked lanes lane (lane_index m) n k within was.0, was.1));
        of_lanes = of_lanes_after thread (hand.Booking lane n) hands (λ m e. absurd (cc e)) s.of_lanes;
      }

  -- and no position is left out
  pub booked_next : hand_of hands thread ≡ hand.Reserve lane → IsGapless o lanes → IsSender queue hands o lanes sending → IsGapless (after_draw o lane) (with_booking lanes lane n)
  booked_next reserved gapless s =
      let lt : lane_index lane < lane_count = lane_within lane (s.of_lanes thread lane reserved) in
      let within : lane_index lane < length lanes = omega (arith, lt, s.nine) in
      record {
        next = λ m.
            set_at o.positions (lane_index lane) m (position_of o lane + 1) 0 (omega (arith, lt, s.nine_positions))
            ∙ either_position (at_place lane m) o lanes lane m n refl (gapless.next (lane_index lane)) (gapless.next m)
            ∙ ap (λ (l : List Numbers). length l) (sym (list_with lanes lane m n within));
      }
