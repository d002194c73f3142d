-- A window with room for one: what comes goes up at once, and nothing waits.
use Rattle.std.proofs.Common.{◌≡◌, ℕ, ◌+◌, ◌-◌, Bool, true, false, eq-eqb, List, [], ◌∷◌, Option, Some, None, refl, sym, ap, subst, ◌∙◌, arith}
use Rattle.std.specs.Prelude.{◌==◌, nat_lt, nat_le, max, if◌then◌else◌}
use Rattle.std.proofs.lemmas.Bool.{le-ltb, lt-ltb}
use Rattle.wl_window.specs.declared.slot.Slot.{Slot}
use Rattle.wl_window.specs.Numbering.{full, distance}
use Rattle.wl_window.specs.Reordering.{Window, below, from, items, run_end, Moved, Arrived, Old, Doubled, Stored, advanced, arrived, requested}
use Rattle.wl_elem.specs.declared.lane.Lane.{Lane}
use Rattle.wl_elem.specs.declared.lane.Lane.TheVariants.{Management}
use Rattle.wl_number.specs.declared.numbers.Numbers.{Numbers}
use Rattle.wl_replay.specs.declared.replay.Pair.{Pair}
use Rattle.wl_replay.specs.Replay.{is_above, last_of}
use Rattle.wl_history.specs.declared.arrival.Arrival.{Arrival}
use Rattle.wl_history.specs.declared.outcome.Outcome.TheVariants as outcomes
use Rattle.wl_history.specs.Ends.{receive_size}
use Rattle.wl_history.specs.EndState.{EndState, IsEnd, lane_at, management, before_it, pair_of, let_up, hear_arrived, hear_answer}

-- nothing waits then, and this went up
pub record IsPassed (up : List Arrival) (moved : Moved Arrival) : Type 0 where
  pub slots : moved.window.slots ≡ []
  pub up_is : moved.up ≡ up

abbrev pub PassedOn : Arrival → Arrived Arrival → Type 0
PassedOn item Old = Unit {0}
PassedOn item Doubled = Unit {0}
PassedOn item (Stored moved) = IsPassed (item ∷ []) moved

abbrev pub PassedIf : Option (Moved Arrival) → Type 0
PassedIf None = Unit {0}
PassedIf (Some moved) = IsPassed [] moved

passed_one : (at : ℕ) (item : Arrival) → IsPassed (item ∷ []) (advanced at (record { number = at; item = item } ∷ []))
unfolding advanced
passed_one at item =
    let slot : Slot Arrival = record { number = at; item = item } in
    let stays : from at (slot ∷ []) ≡ slot ∷ [] = ap (λ (b : Bool). if b then [] else slot ∷ []) (le-ltb at at (omega arith)) in
    let end_is : run_end at (from at (slot ∷ [])) ≡ at + 1 = ap (run_end at) stays ∙ ap (λ (b : Bool). if b then at + 1 else at) (eq-eqb at at refl) in
    let lower : nat_lt at (at + 1) ≡ true = lt-ltb at (at + 1) (omega arith) in
    record {
      slots = ap (λ (end : ℕ). from end (slot ∷ [])) end_is ∙ ap (λ (b : Bool). if b then [] else slot ∷ []) lower;
      up_is = ap (λ (end : ℕ). items (below end (slot ∷ []))) end_is ∙ ap (λ (b : Bool). items (if b then slot ∷ [] else [])) lower;
    }

passed_by : (old doubled : Bool) (item : Arrival) (moved : Moved Arrival) → IsPassed (item ∷ []) moved → PassedOn item (if old then Old else (if doubled then Doubled else Stored moved))
passed_by true doubled item moved h = tt
passed_by false true item moved h = tt
passed_by false false item moved h = h

passed_from : (start number : ℕ) (item : Arrival) → PassedOn item (arrived (let w : Window Arrival = record { start = start; slots = [] } in w) number 1 item)
unfolding arrived
passed_from start number item =
    let at = full start number in
    let to_is : max start (at + 1 - 1) ≡ at = omega arith in
    passed_by (nat_le (start + 2048) at) false item _ (subst (λ (to : ℕ). IsPassed (item ∷ []) (advanced to (record { number = at; item = item } ∷ []))) (sym to_is) (passed_one at item))

same_window : (w : Window Arrival) → w.slots ≡ [] → w ≡ record { start = w.start; slots = [] }
same_window w idle = ap (λ (slots : List (Slot Arrival)). let x : Window Arrival = record { start = w.start; slots = slots } in x) idle

pub passed_arrived : (w : Window Arrival) (number : ℕ) (item : Arrival) → w.slots ≡ [] → PassedOn item (arrived w number 1 item)
passed_arrived w number item idle = subst (λ (x : Window Arrival). PassedOn item (arrived x number 1 item)) (sym (same_window w idle)) (passed_from w.start number item)

passed_asked : (none near : Bool) (moved : Moved Arrival) → IsPassed [] moved → PassedIf (if none then None else (if near then Some moved else None))
passed_asked true near moved h = tt
passed_asked false true moved h = h
passed_asked false false moved h = tt

nothing_up : (to : ℕ) → IsPassed [] (advanced to [])
unfolding advanced
nothing_up to = record { slots = refl; up_is = refl }

requested_from : (from_start start : ℕ) → PassedIf (requested (let w : Window Arrival = record { start = from_start; slots = [] } in w) start)
unfolding requested
requested_from from_start start = passed_asked (distance from_start start == 0) (nat_lt (distance from_start start) 2048) _ (nothing_up (from_start + distance from_start start))

pub passed_requested : (w : Window Arrival) (start : ℕ) → w.slots ≡ [] → PassedIf (requested w start)
passed_requested w start idle = subst (λ (x : Window Arrival). PassedIf (requested x start)) (sym (same_window w idle)) (requested_from w.start start)

-- ---- what is stored of management

-- the position that goes up, where the pair is above the last
one_up : (last : Option Pair) (item : Arrival) → is_above last item.numbers.key item.numbers.pn ≡ true → (let_up last (item ∷ [])).positions ≡ item.numbers.pos ∷ []
one_up last item above = ap (λ (b : Bool). (if b then before_it item.numbers.pos (let_up (Some (pair_of item)) []) else let_up last []).positions) above

up_by : (s : EndState) (number : ℕ) (item : Arrival) (b : Bool) → is_above (last_of s.last Management) item.numbers.key item.numbers.pn ≡ b → (come : Arrived Arrival) → PassedOn item come → (lane : Lane) (heard : ℕ) (n : Numbers) (up : List ℕ)
    → (if b then hear_arrived Management number item.numbers (last_of s.last Management) come else outcomes.Replay) ≡ outcomes.Stored lane heard n up → up ≡ item.numbers.pos ∷ []
up_by s number item false above come passed lane heard n up is = absurd (cc is)
up_by s number item true above Old passed lane heard n up is = absurd (cc is)
up_by s number item true above Doubled passed lane heard n up is = absurd (cc is)
up_by s number item true above (Stored moved) passed lane heard n up is =
    let same : (let_up (last_of s.last Management) moved.up).positions ≡ up = cc is in
    sym same ∙ ap (λ (items : List Arrival). (let_up (last_of s.last Management) items).positions) passed.up_is ∙ one_up (last_of s.last Management) item above

-- a body of management that is stored is released, and no other
pub up_at_once : (s : EndState) (number : ℕ) (item : Arrival) (lane : Lane) (heard : ℕ) (n : Numbers) (up : List ℕ) → IsEnd s
    → hear_answer Management number (receive_size s.setup management) item s ≡ outcomes.Stored lane heard n up → up ≡ item.numbers.pos ∷ []
up_at_once s number item lane heard n up is answer =
    up_by s number item _ refl (arrived (lane_at s management).window number 1 item) (passed_arrived (lane_at s management).window number item is.managed.idle) lane heard n up answer
