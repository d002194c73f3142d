-- What each call of an end leaves, in the words of the history.
use Rattle.std.proofs.Common.{◌≡◌, ◌+◌, ◌≢◌, ℕ, zero, suc, ◌<◌, Bool, true, false, List, [], ◌∷◌, ◌++◌, length, get_or, set, Option, Some, None, refl, sym, ap, subst, ◌∙◌, arith, eq-eqb, inl, inr, append_assoc}
use Rattle.std.specs.Prelude.{max, if◌then◌else◌, ◌==◌, ◌&&◌, ◌||◌}
use Rattle.std.proofs.lemmas.Bool.{ne_eqb, cases_eq}
use Rattle.std.proofs.lemmas.List.{append-nil}
use Rattle.wl_elem.specs.declared.lane.EndId.{EndId}
use Rattle.wl_elem.specs.declared.lane.Lane.{Lane}
use Rattle.wl_elem.specs.declared.lane.Lane.TheVariants as lanes
use Rattle.wl_elem.specs.Lanes.{lane_index, lane_count, at_place}
use Rattle.wl_frame.specs.Sealing.{Sealing}
use Rattle.wl_number.specs.declared.numbers.Numbers.{Numbers}
use Rattle.wl_number.specs.NumberObject.{drawn}
use Rattle.wl_number.specs.OrderRule.{with_booking}
use Rattle.wl_replay.specs.declared.replay.Pair.{Pair}
use Rattle.wl_replay.specs.Replay.{last_of}
use Rattle.wl_window.specs.Reordering.{Window, Moved, Arrived, Stored, arrived, requested}
use Rattle.wl_window.specs.Originating.{Sending, with_booked}
use Rattle.wl_history.specs.declared.ack.Bar.{Bar}
use Rattle.wl_history.specs.declared.arrival.Arrival.{Arrival}
use Rattle.wl_history.specs.declared.hand.Hand.{Hand}
use Rattle.wl_history.specs.declared.hand.Hand.TheVariants as hand
use Rattle.wl_history.specs.declared.outcome.Outcome.{Outcome}
use Rattle.wl_history.specs.declared.outcome.Outcome.TheVariants as outcomes
use Rattle.wl_history.specs.Answers.{last_key, turn_answer}
use Rattle.wl_history.specs.declared.setup.Setup.{Setup}
use Rattle.wl_history.specs.declared.start.EndStart.{EndStart}
use Rattle.wl_history.specs.Ends.{receive_size}
use Rattle.wl_message.specs.declared.message.Message.{Message}
use Rattle.wl_message.specs.Message.{message_octets}
use Rattle.wl_history.specs.Machines.{Made}
use Rattle.wl_history.specs.Words.{body_at, bodies_with, queue_by, key_turned, Airing, airings_on, was_aired, Receiving, last_pair, is_new, release, release_all, passed, taken, passed_if}
use Rattle.wl_history.specs.Hearing.{octets_of}
use Rattle.wl_history.specs.EndState.{EndState, IsEnd, lane_at, no_lane, frames_on, with_lane, with_frame, put_down, was_aired_at, aired_at, LetUp, pair_of, before_it, let_up, with_moved, moved_by, after_queue, after_book, after_turn, management, with_message, with_made}
use Rattle.wl_history.specs.Stands.{positions_of, octets_all, LaneTells, Tells}
use Rattle.wl_history.proofs.Keeping.{any_place, set_place, at_own_place}

-- ---- flags of what was aired

same_after : (k i : ℕ) → (suc k == suc i) ≡ (k == i)
same_after k i = elim (cases_eq k i) [
  | inl same ↦ eq-eqb (suc k) (suc i) (ap suc same) ∙ sym (eq-eqb k i same)
  | inr ne ↦ ne_eqb (suc k) (suc i) (λ e. ne (omega (arith, e))) ∙ sym (ne_eqb k i ne)
]

flag_at : (pos : ℕ) (flags : List Bool) (q : ℕ) → was_aired_at (aired_at pos flags) q ≡ (pos == q || was_aired_at flags q)
flag_at zero [] zero = refl
flag_at zero [] (suc q) = sym (ap (λ (b : Bool). b || false) (ne_eqb 0 (suc q) (λ e. omega (arith, e))))
flag_at zero (b ∷ flags) zero = refl
flag_at zero (b ∷ flags) (suc q) = sym (ap (λ (c : Bool). c || was_aired_at flags q) (ne_eqb 0 (suc q) (λ e. omega (arith, e))))
flag_at (suc pos) [] zero = sym (ap (λ (b : Bool). b || false) (ne_eqb (suc pos) 0 (λ e. omega (arith, e))))
flag_at (suc pos) [] (suc q) = flag_at pos [] q ∙ sym (ap (λ (b : Bool). b || false) (same_after pos q))
flag_at (suc pos) (b ∷ flags) zero = sym (ap (λ (c : Bool). c || b) (ne_eqb (suc pos) 0 (λ e. omega (arith, e))))
flag_at (suc pos) (b ∷ flags) (suc q) = flag_at pos flags q ∙ sym (ap (λ (c : Bool). c || was_aired_at flags q) (same_after pos q))

if_or : (b c : Bool) → (if b then true else c) ≡ (b || c)
if_or true c = refl
if_or false c = refl

or_swap : (a b c : Bool) → (a || (b || c)) ≡ (b || (a || c))
or_swap true true c = refl
or_swap true false c = refl
or_swap false true c = refl
or_swap false false c = refl

aired_more : (l q : ℕ) (old : List Airing) (new : Airing) → was_aired l q (old ++ new ∷ []) ≡ ((at_place new.lane l && new.numbers.pos == q) || was_aired l q old)
aired_more l q [] new = if_or (at_place new.lane l && new.numbers.pos == q) false
aired_more l q (a ∷ old) new =
    if_or (at_place a.lane l && a.numbers.pos == q) (was_aired l q (old ++ new ∷ []))
    ∙ ap (λ (b : Bool). (at_place a.lane l && a.numbers.pos == q) || b) (aired_more l q old new)
    ∙ or_swap (at_place a.lane l && a.numbers.pos == q) (at_place new.lane l && new.numbers.pos == q) (was_aired l q old)
    ∙ ap (λ (b : Bool). (at_place new.lane l && new.numbers.pos == q) || b) (sym (if_or (at_place a.lane l && a.numbers.pos == q) (was_aired l q old)))

-- ---- frames on a link

on_more_by : (b : Bool) (old more : List Airing) (a : Airing) → (if b then a ∷ (old ++ more) else old ++ more) ≡ (if b then a ∷ old else old) ++ more
on_more_by true old more a = refl
on_more_by false old more a = refl

on_more : (link : ℕ) (old : List Airing) (new : Airing) → airings_on link (old ++ new ∷ []) ≡ airings_on link old ++ (if new.link == link then new ∷ [] else [])
on_more link [] new = refl
on_more link (a ∷ old) new =
    ap (λ (as' : List Airing). if a.link == link then a ∷ as' else as') (on_more link old new)
    ∙ on_more_by (a.link == link) (airings_on link old) (if new.link == link then new ∷ [] else []) a

octets_more : (text : Sealing) (start : EndStart) (e : EndId) (old more : List Airing) → octets_all text start e (old ++ more) ≡ octets_all text start e old ++ octets_all text start e more
octets_more text start e [] more = refl
octets_more text start e (a ∷ old) more = ap (λ (os : List (List ℕ)). octets_of text start e a ∷ os) (octets_more text start e old more)

-- ---- what goes up

-- what an end lets up is what the history releases
record UpAlike (up : List Arrival) (released : List Arrival) : Type 0 where
  pub all : positions_of (release_all up released) ≡ positions_of released ++ (let_up (last_pair released) up).positions
  pub last : (let_up (last_pair released) up).last ≡ last_pair (release_all up released)

up_by : (b : Bool) (a : Arrival) (up released : List Arrival) → is_new a.numbers released ≡ b → UpAlike up (release a released) → UpAlike (a ∷ up) released
up_by true a up released new more =
    let goes : release a released ≡ a ∷ released = ap (λ (b : Bool). if b then a ∷ released else released) new in
    let let_it : let_up (last_pair released) (a ∷ up) ≡ before_it a.numbers.pos (let_up (last_pair (a ∷ released)) up) = ap (λ (b : Bool). if b then before_it a.numbers.pos (let_up (Some (pair_of a)) up) else let_up (last_pair released) up) new in
    let later : UpAlike up (a ∷ released) = subst (UpAlike up) goes more in
    record {
      all = ap (λ (r : List Arrival). positions_of (release_all up r)) goes ∙ later.all
          ∙ append_assoc (positions_of released) (a.numbers.pos ∷ []) (let_up (last_pair (a ∷ released)) up).positions
          ∙ sym (ap (λ (u : LetUp). positions_of released ++ u.positions) let_it);
      last = ap (λ (u : LetUp). u.last) let_it ∙ later.last ∙ sym (ap (λ (r : List Arrival). last_pair (release_all up r)) goes);
    }
up_by false a up released old more =
    let stays : release a released ≡ released = ap (λ (b : Bool). if b then a ∷ released else released) old in
    let let_it : let_up (last_pair released) (a ∷ up) ≡ let_up (last_pair released) up = ap (λ (b : Bool). if b then before_it a.numbers.pos (let_up (Some (pair_of a)) up) else let_up (last_pair released) up) old in
    let later : UpAlike up released = subst (UpAlike up) stays more in
    record {
      all = ap (λ (r : List Arrival). positions_of (release_all up r)) stays ∙ later.all ∙ sym (ap (λ (u : LetUp). positions_of released ++ u.positions) let_it);
      last = ap (λ (u : LetUp). u.last) let_it ∙ later.last ∙ sym (ap (λ (r : List Arrival). last_pair (release_all up r)) stays);
    }

up_alike : (up released : List Arrival) → UpAlike up released
up_alike [] released = record { all = sym (append-nil (positions_of released)); last = refl }
up_alike (a ∷ up) released = up_by (is_new a.numbers released) a up released refl (up_alike up (release a released))

-- ---- each call

-- the key that is turned to
pub turned_key : (b : Bool) (key new : ℕ) → outcomes.Turned new ≡ (if b then outcomes.KeysSpent else outcomes.Turned (key + 1)) → new ≡ key + 1
turned_key true key new is = absurd (cc is)
turned_key false key new is = cc is

-- the hands tell nothing of it
pub down_tells : (text : Sealing) (start : EndStart) (e : EndId) (s : EndState) (queue : ℕ → List (List ℕ)) (bookings : List (List Numbers)) (aired : List Airing) (got : ℕ → Receiving) (key : ℕ) (setup : Setup)
    → Tells text start e s queue bookings aired got key setup → (thread : ℕ) (held : Hand) → Tells text start e (put_down thread held s) queue bookings aired got key setup
down_tells text start e s queue bookings aired got key setup h thread hand.Empty = h
down_tells text start e s queue bookings aired got key setup h thread (hand.Reserve lane) = h
down_tells text start e s queue bookings aired got key setup h thread (hand.Booking lane n) =
    record { start_is = h.start_is; setup_is = h.setup_is; key_is = h.key_is; lanes = h.lanes; booked_are = h.booked_are; last = h.last; frames = h.frames }

module _ (text : Sealing) (start : EndStart) (e : EndId) (s : EndState) (queue : ℕ → List (List ℕ)) (bookings : List (List Numbers)) (aired : List Airing) (got : ℕ → Receiving) (key : ℕ) (setup : Setup)
    (h : Tells text start e s queue bookings aired got key setup) where
  -- another setup
  setup_tells : (new : Setup) → Tells text start e (record s { setup = new }) queue bookings aired got key new
  setup_tells new = record { start_is = h.start_is; setup_is = refl; key_is = h.key_is; lanes = h.lanes; booked_are = h.booked_are; last = h.last; frames = h.frames }

  -- the same queues, told otherwise
  pub tells_alike : (other : ℕ → List (List ℕ)) → ((l : ℕ) → queue l ≡ other l) → Tells text start e s other bookings aired got key setup
  tells_alike other same = record {
    start_is = h.start_is;
    setup_is = h.setup_is;
    key_is = h.key_is;
    lanes = λ l lt. subst (λ (q : List (List ℕ)). LaneTells l (lane_at s l) q (got l) aired) (same l) (h.lanes l lt);
    booked_are = h.booked_are;
    last = h.last;
    frames = h.frames;
  }

module _ (text : Sealing) (start : EndStart) (e : EndId) (s : EndState) (queue : ℕ → List (List ℕ)) (bookings : List (List Numbers)) (aired : List Airing) (got : ℕ → Receiving) (key : ℕ) (setup : Setup)
    (is : IsEnd s) (h : Tells text start e s queue bookings aired got key setup) where
  within_lanes : (l : ℕ) → l < lane_count → l < length s.lanes
  within_lanes l lt = omega (arith, lt, is.nine)

  pub queue_tells : (tid : ℕ) (body : List ℕ) → Tells text start e (after_queue tid body s) (λ l. if at_place (lanes.Tid tid) l then queue l ++ body ∷ [] else queue l) bookings aired got key setup
  queue_tells tid body = record {
    start_is = h.start_is;
    setup_is = h.setup_is;
    key_is = h.key_is;
    lanes = λ l lt. set_place (λ x. LaneTells l x (if tid == l then queue l ++ body ∷ [] else queue l) (got l) aired) s.lanes tid l (record (lane_at s tid) { queue = (lane_at s tid).queue ++ body ∷ [] }) no_lane (inr (within_lanes l lt))
        (λ ne. let was = h.lanes l lt in record {
          queue_is = was.queue_is ∙ sym (ap (λ (b : Bool). if b then queue l ++ body ∷ [] else queue l) (ne_eqb tid l ne));
          window = was.window;
          released = was.released;
          flags = was.flags;
        })
        (λ same. let was = subst (λ (j : ℕ). LaneTells l (lane_at s j) (queue l) (got l) aired) (sym same) (h.lanes l lt) in record {
          queue_is = ap (λ (q : List (List ℕ)). q ++ body ∷ []) was.queue_is ∙ sym (ap (λ (b : Bool). if b then queue l ++ body ∷ [] else queue l) (eq-eqb tid l same));
          window = was.window;
          released = was.released;
          flags = was.flags;
        });
    booked_are = h.booked_are;
    last = h.last;
    frames = h.frames;
  }

  -- what a sender keeps besides may change
  lane_sending : (l k : ℕ) (sending : Sending) → l < lane_count → LaneTells l (lane_at (with_lane k (record (lane_at s k) { sending = sending }) s) l) (queue l) (got l) aired
  lane_sending l k sending lt = any_place (λ x. LaneTells l x (queue l) (got l) aired) s.lanes k l (record (lane_at s k) { sending = sending }) no_lane (h.lanes l lt)
      (λ same. let was = subst (λ (j : ℕ). LaneTells l (lane_at s j) (queue l) (got l) aired) (sym same) (h.lanes l lt) in record { queue_is = was.queue_is; window = was.window; released = was.released; flags = was.flags })

  pub sending_tells : (k : ℕ) (sending : Sending) (hands : List Hand) → Tells text start e (record (with_lane k (record (lane_at s k) { sending = sending }) s) { hands = hands }) queue bookings aired got key setup
  sending_tells k sending hands = record {
    start_is = h.start_is;
    setup_is = h.setup_is;
    key_is = h.key_is;
    lanes = λ l lt. lane_sending l k sending lt;
    booked_are = h.booked_are;
    last = h.last;
    frames = h.frames;
  }

  pub booked_tells : (thread : ℕ) (lane : Lane) → Tells text start e (after_book thread (outcomes.Booked lane (drawn s.numbers lane)) s) queue (with_booking bookings lane (drawn s.numbers lane)) aired got (max key (drawn s.numbers lane).key) setup
  booked_tells thread lane = record {
    start_is = h.start_is;
    setup_is = h.setup_is;
    key_is = omega (arith, h.key_is);
    lanes = λ l lt. lane_sending l (lane_index lane) (with_booked (lane_at s (lane_index lane)).sending (drawn s.numbers lane).pos) lt;
    booked_are = ap (λ (b : List (List Numbers)). with_booking b lane (drawn s.numbers lane)) h.booked_are;
    last = h.last;
    frames = h.frames;
  }

  pub turn_tells : (o : Outcome) → o ≡ turn_answer s.numbers → Tells text start e (after_turn o s) queue bookings aired got (key_turned o key) setup
  turn_tells (outcomes.Turned new) is = record { start_is = h.start_is; setup_is = h.setup_is; key_is = omega (arith, h.key_is, turned_key (s.numbers.key == last_key) s.numbers.key new is); lanes = h.lanes; booked_are = h.booked_are; last = h.last; frames = h.frames }
  turn_tells other is = h

  -- ---- a frame more

  module _ (new : Airing) (octets : List ℕ) (octets_are : octets ≡ octets_of text start e new) where
    flags_then : (b : Bool) (flags : List Bool) (l pos : ℕ) → (at_place new.lane l) ≡ b → ((p : ℕ) → was_aired_at flags p ≡ was_aired l p aired) → was_aired_at (if b then aired_at new.numbers.pos flags else flags) pos ≡ was_aired l pos (aired ++ new ∷ [])
    flags_then true flags l pos at old =
        flag_at new.numbers.pos flags pos ∙ ap (λ (b : Bool). new.numbers.pos == pos || b) (old pos)
        ∙ ap (λ (b : Bool). (b && new.numbers.pos == pos) || was_aired l pos aired) (sym at) ∙ sym (aired_more l pos aired new)
    flags_then false flags l pos at old = old pos ∙ ap (λ (b : Bool). (b && new.numbers.pos == pos) || was_aired l pos aired) (sym at) ∙ sym (aired_more l pos aired new)

    frames_then : (at : ℕ) → at < 15 → get_or (set s.frames new.link (frames_on s new.link ++ octets ∷ [])) at [] ≡ octets_all text start e (airings_on at (aired ++ new ∷ []))
    frames_then at lt =
        set_place (λ fs. fs ≡ octets_all text start e (airings_on at (aired ++ new ∷ []))) s.frames new.link at (frames_on s new.link ++ octets ∷ []) [] (inr (omega (arith, lt, is.fifteen)))
        (λ ne. h.frames at lt ∙ ap (octets_all text start e) (sym (append-nil (airings_on at aired))) ∙ by_link false (ne_eqb new.link at ne))
        (λ same.
        ap (λ (k : ℕ). frames_on s k ++ octets ∷ []) same ∙ ap (λ (fs : List (List ℕ)). fs ++ octets ∷ []) (h.frames at lt) ∙ ap (λ (o : List ℕ). octets_all text start e (airings_on at aired) ++ o ∷ []) octets_are
        ∙ sym (octets_more text start e (airings_on at aired) (new ∷ [])) ∙ by_link true (eq-eqb new.link at same))
      where
        by_link : (b : Bool) → (new.link == at) ≡ b → octets_all text start e (airings_on at aired ++ (if b then new ∷ [] else [])) ≡ octets_all text start e (airings_on at (aired ++ new ∷ []))
        by_link b is = ap (λ (c : Bool). octets_all text start e (airings_on at aired ++ (if c then new ∷ [] else []))) (sym is) ∙ ap (octets_all text start e) (sym (on_more at aired new))

    pub framed_tells : Tells text start e (with_frame new.link octets new.lane new.numbers s) queue bookings (aired ++ new ∷ []) got key setup
    framed_tells = record {
      start_is = h.start_is;
      setup_is = h.setup_is;
      key_is = h.key_is;
      lanes = λ l lt. set_place (λ x. LaneTells l x (queue l) (got l) (aired ++ new ∷ [])) s.lanes (lane_index new.lane) l (record (lane_at s (lane_index new.lane)) { aired = aired_at new.numbers.pos (lane_at s (lane_index new.lane)).aired }) no_lane (inr (within_lanes l lt))
          (λ ne. let was = h.lanes l lt in record { queue_is = was.queue_is; window = was.window; released = was.released; flags = λ pos. flags_then false (lane_at s l).aired l pos (ne_eqb (lane_index new.lane) l ne) was.flags })
          (λ same. let was = subst (λ (j : ℕ). LaneTells l (lane_at s j) (queue l) (got l) aired) (sym same) (h.lanes l lt) in record {
            queue_is = was.queue_is;
            window = was.window;
            released = was.released;
            flags = λ pos. flags_then true (lane_at s (lane_index new.lane)).aired l pos (eq-eqb (lane_index new.lane) l same) was.flags;
          });
      booked_are = h.booked_are;
      last = h.last;
      frames = frames_then;
    }

  -- ---- a window that moves

  -- the words of what is received then, which are these
  module _ (lane : Lane) (moved : Moved Arrival) (got_then : ℕ → Receiving)
      (own : LaneTells (lane_index lane) (lane_at s (lane_index lane)) (queue (lane_index lane)) (got (lane_index lane)) aired → got_then (lane_index lane) ≡ passed moved (got (lane_index lane)))
      (other : (l : ℕ) → lane_index lane ≢ l → got l ≡ got_then l) where
    own_lane : lane_index lane < lane_count → LaneTells (lane_index lane) (record (lane_at s (lane_index lane)) { window = moved.window; released = (lane_at s (lane_index lane)).released ++ (let_up (last_of s.last lane) moved.up).positions }) (queue (lane_index lane)) (got_then (lane_index lane)) aired
    own_lane lt =
        let k = lane_index lane in
        let was = h.lanes k lt in
        subst (λ (r : Receiving). LaneTells k (record (lane_at s k) { window = moved.window; released = (lane_at s k).released ++ (let_up (last_of s.last lane) moved.up).positions }) (queue k) r aired) (sym (own was)) (record {
          queue_is = was.queue_is;
          window = refl;
          released = ap (λ (ps : List ℕ). ps ++ (let_up (last_of s.last lane) moved.up).positions) was.released
              ∙ ap (λ (last : Option Pair). positions_of (got k).released ++ (let_up last moved.up).positions) (h.last k lt)
              ∙ sym (up_alike moved.up (got k).released).all;
          flags = was.flags;
        })

    own_last : lane_index lane < lane_count → (let_up (last_of s.last lane) moved.up).last ≡ last_pair (got_then (lane_index lane)).released
    own_last lt =
        let k = lane_index lane in
        ap (λ (last : Option Pair). (let_up last moved.up).last) (h.last k lt) ∙ (up_alike moved.up (got k).released).last ∙ sym (ap (λ (r : Receiving). last_pair r.released) (own (h.lanes k lt)))

    passed_tells : Tells text start e (with_moved lane moved s) queue bookings aired got_then key setup
    passed_tells = record {
      start_is = h.start_is;
      setup_is = h.setup_is;
      key_is = h.key_is;
      lanes = λ l lt. set_place (λ x. LaneTells l x (queue l) (got_then l) aired) s.lanes (lane_index lane) l (record (lane_at s (lane_index lane)) { window = moved.window; released = (lane_at s (lane_index lane)).released ++ (let_up (last_of s.last lane) moved.up).positions }) no_lane (inr (within_lanes l lt))
          (λ ne. subst (λ (r : Receiving). LaneTells l (lane_at s l) (queue l) r aired) (other l ne) (h.lanes l lt))
          (λ same. subst (λ (j : ℕ). LaneTells j (record (lane_at s (lane_index lane)) { window = moved.window; released = (lane_at s (lane_index lane)).released ++ (let_up (last_of s.last lane) moved.up).positions }) (queue j) (got_then j) aired) same (own_lane (omega (arith, lt, same))));
      booked_are = h.booked_are;
      last = λ l lt. set_place (λ p. p ≡ last_pair (got_then l).released) s.last (lane_index lane) l (let_up (last_of s.last lane) moved.up).last None (inr (omega (arith, lt, is.nine_pairs)))
          (λ ne. h.last l lt ∙ ap (λ (r : Receiving). last_pair r.released) (other l ne))
          (λ same. subst (λ (j : ℕ). (let_up (last_of s.last lane) moved.up).last ≡ last_pair (got_then j).released) same (own_last (omega (arith, lt, same))));
      frames = h.frames;
    }

  -- by a body that is stored
  module _ (lane : Lane) (number : ℕ) (a : Arrival) (moved : Moved Arrival) (come : arrived (lane_at s (lane_index lane)).window number (receive_size s.setup (lane_index lane)) a ≡ Stored moved)
      (peers : ℕ → List (List ℕ)) (body : a.body ≡ body_at (peers (lane_index lane)) a.numbers.pos) where
    abbrev item : ℕ → Arrival
    item l = record { numbers = a.numbers; body = body_at (peers l) a.numbers.pos }

    abbrev pub got_stored : ℕ → Receiving
    got_stored l = if at_place lane l then taken (arrived (got l).window number (receive_size setup l) (item l)) (got l) else got l

    own_stored : LaneTells (lane_index lane) (lane_at s (lane_index lane)) (queue (lane_index lane)) (got (lane_index lane)) aired → got_stored (lane_index lane) ≡ passed moved (got (lane_index lane))
    own_stored was =
        let k = lane_index lane in
        let same_item : item k ≡ a = ap (λ (b : List ℕ). let x : Arrival = record { numbers = a.numbers; body = b } in x) (sym body) in
        let word_come : arrived (got k).window number (receive_size setup k) (item k) ≡ Stored moved =
        ap (λ (w : Window Arrival). arrived w number (receive_size setup k) (item k)) (sym was.window)
        ∙ ap (λ (x : Setup). arrived (lane_at s k).window number (receive_size x k) (item k)) (sym h.setup_is)
        ∙ ap (λ (x : Arrival). arrived (lane_at s k).window number (receive_size s.setup k) x) same_item ∙ come in
        ap (λ (b : Bool). if b then taken (arrived (got k).window number (receive_size setup k) (item k)) (got k) else got k) (at_own_place lane)
        ∙ ap (λ (c : Arrived Arrival). taken c (got k)) word_come

    pub moved_tells : Tells text start e (with_moved lane moved s) queue bookings aired got_stored key setup
    moved_tells = passed_tells lane moved got_stored own_stored
        (λ l ne. sym (ap (λ (b : Bool). if b then taken (arrived (got l).window number (receive_size setup l) (item l)) (got l) else got l) (ne_eqb (lane_index lane) l ne)))

  -- by a request
  module _ (bar : Bar) (moved : Moved Arrival) (asked : moved_by bar s ≡ Some moved) where
    abbrev pub got_asked : ℕ → Receiving
    got_asked l = if at_place bar.lane l then passed_if (requested (got l).window bar.start) (got l) else got l

    own_asked : LaneTells (lane_index bar.lane) (lane_at s (lane_index bar.lane)) (queue (lane_index bar.lane)) (got (lane_index bar.lane)) aired → got_asked (lane_index bar.lane) ≡ passed moved (got (lane_index bar.lane))
    own_asked was =
        let k = lane_index bar.lane in
        ap (λ (b : Bool). if b then passed_if (requested (got k).window bar.start) (got k) else got k) (at_own_place bar.lane)
        ∙ ap (λ (w : Window Arrival). passed_if (requested w bar.start) (got k)) (sym was.window)
        ∙ ap (λ (m : Option (Moved Arrival)). passed_if m (got k)) asked

    pub asked_tells : Tells text start e (with_moved bar.lane moved s) queue bookings aired got_asked key setup
    asked_tells = passed_tells bar.lane moved got_asked own_asked
        (λ l ne. sym (ap (λ (b : Bool). if b then passed_if (requested (got l).window bar.start) (got l) else got l) (ne_eqb (lane_index bar.lane) l ne)))

-- ---- what machines make

swapped : (a b : ℕ) → (a == b) ≡ (b == a)
swapped a b = elim (cases_eq a b) [
  | inl same ↦ eq-eqb a b same ∙ sym (eq-eqb b a (sym same))
  | inr ne ↦ ne_eqb a b ne ∙ sym (ne_eqb b a (λ e. ne (sym e)))
]

-- a body more of management
body_more : (here place : Bool) → here ≡ place → (bodies data_bodies : List (List ℕ)) (body : List ℕ)
    → (if here then (if place then bodies else data_bodies) ++ body ∷ [] else (if place then bodies else data_bodies)) ≡ (if place then bodies ++ body ∷ [] else data_bodies)
body_more true true same bodies data_bodies body = refl
body_more false false same bodies data_bodies body = refl
body_more true false same bodies data_bodies body = absurd (cc same)
body_more false true same bodies data_bodies body = absurd (cc same)

module _ (text : Sealing) (start : EndStart) (e : EndId) (s : EndState) (bodies : List (List ℕ)) (own : ℕ → List (List ℕ)) (bookings : List (List Numbers)) (aired : List Airing) (got : ℕ → Receiving) (key : ℕ) (setup : Setup)
    (is : IsEnd s) (h : Tells text start e s (queue_by bodies own) bookings aired got key setup) where
  made_by : (new : Setup) (message : Option Message) → Tells text start e (with_message message (record s { setup = new })) (queue_by (bodies_with message bodies) own) bookings aired got key new
  made_by new None = setup_tells text start e s (queue_by bodies own) bookings aired got key setup h new
  made_by new (Some message) =
      let body = message_octets message in
      let queue_then : ℕ → List (List ℕ) = λ l. if management == l then queue_by bodies own l ++ body ∷ [] else queue_by bodies own l in
      tells_alike text start e (record (after_queue management body s) { setup = new }) queue_then bookings aired got key new
      (setup_tells text start e (after_queue management body s) queue_then bookings aired got key setup (queue_tells text start e s (queue_by bodies own) bookings aired got key setup is h management body) new)
      (queue_by (bodies ++ body ∷ []) own) (λ l. body_more (management == l) (l == management) (swapped management l) bodies (own l) body)

  -- what a machine makes of the setup, and of the words of it
  pub made_tells : (f : Setup → Made) → Tells text start e (with_made (f s.setup) s) (queue_by (bodies_with (f setup).message bodies) own) bookings aired got key (f setup).setup
  made_tells f =
      subst (λ (x : Setup). Tells text start e (with_made (f s.setup) s) (queue_by (bodies_with (f x).message bodies) own) bookings aired got key (f x).setup) h.setup_is
      (made_by (f s.setup).setup (f s.setup).message)
