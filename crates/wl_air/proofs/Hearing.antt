-- A frame that is heard: the receiver opens it and its sender looks the booking up by its numbers; the
-- history finds the booking by its text. Both answer the same, and call the same frames forged.
use Rattle.std.proofs.Common.{◌≡◌, ◌≢◌, ℕ, zero, suc, ◌<◌, ◌≤◌, ◌^◌, Bool, true, false, List, [], ◌∷◌, length, Option, None, Some, Result, Ok, Err, refl, sym, ap, subst, ◌∙◌, arith, eq-eqb}
use Rattle.std.proofs.lemmas.Slice.Eq.{bytes_eq-Decides}
use Rattle.std.specs.Prelude.{◌==◌, if◌then◌else◌, IfOk, IfErr}
use Rattle.std.specs.List.{Contains}
use Rattle.std.proofs.lemmas.Bool.{and_from, and_parts, eqb-true}
use Rattle.wl_elem.specs.declared.fault.Refusal.{Refusal}
use Rattle.wl_elem.specs.declared.lane.EndId.{EndId}
use Rattle.wl_elem.specs.declared.lane.Lane.{Lane}
use Rattle.wl_elem.specs.declared.lane.Lane.TheVariants as lanes
use Rattle.wl_elem.specs.Lanes.{lane_index, peer_of, IsLane}
use Rattle.wl_frame.specs.declared.header.Kind.{Kind}
use Rattle.wl_frame.specs.Frame.{FrameValue, IsKind}
use Rattle.wl_frame.specs.Nonce.{nonce, lane_of}
use Rattle.wl_frame.specs.Refusals.{ReadAs}
use Rattle.wl_frame.specs.Sealing.{Sealing, IsSealing, IsUnder, CanSeal}
use Rattle.wl_number.specs.declared.numbers.Numbers.{Numbers}
use Rattle.wl_number.specs.NumberObject.{InRange}
use Rattle.wl_number.specs.OrderRule.{OrderRule, list_at, list_of, same_pair}
use Rattle.wl_replay.specs.Replay.{is_above, last_of}
use Rattle.wl_window.specs.Reordering.{Arrived, Old, Doubled, Stored, arrived}
use Rattle.wl_history.specs.declared.arrival.Arrival.{Arrival}
use Rattle.wl_history.specs.declared.opened.Opened.{Opened}
use Rattle.wl_history.specs.declared.outcome.Outcome.{Outcome}
use Rattle.wl_history.specs.declared.outcome.Outcome.TheVariants as outcomes
use Rattle.wl_history.specs.declared.setup.Setup.{Setup}
use Rattle.wl_history.specs.declared.start.EndStart.{EndStart}
use Rattle.wl_history.specs.Ends.{mld_of, receive_size}
use Rattle.wl_history.specs.Words.{body_at}
use Rattle.wl_history.specs.Hearing.{Closed, IsClosed, Judged, Answered, ToOpen, judged, kind_of, opened_under, sealed_under, text_of, is_of, booking_of}
use Rattle.wl_history.specs.EndState.{EndState, IsEnd, management, lane_at, arrival_of, hear_arrived, hear_answer, after_arrived, after_hear, after_heard}
use Rattle.wl_history.specs.Legal.{IsBodyIn, IsUnbooked, judged_at, judged_answer, opened_answer, HeardAs, HeardIf, ForgedAs, ForgedIf}
use Rattle.wl_message.specs.Message.{IsMade as IsBody}
use Rattle.wl_history.specs.Machines.{IsBodyOn}
use Rattle.wl_history.specs.Plain.{IsPlain}
use Rattle.wl_end.specs.declared.peek.Peek.{Peek}
use Rattle.wl_end.specs.declared.peek.Peek.TheVariants as peeks
use Rattle.wl_end.specs.Peeking.{IsPeek, IsBookingOf, OpenedAs, PeekedAs, PeekFits}
use Rattle.wl_air.specs.declared.fault.StepFault.{StepFault}
use Rattle.wl_air.specs.declared.fault.StepFault.TheVariants as faults
use Rattle.wl_air.specs.Acting.{IsHearFault}
use Rattle.wl_air.specs.Air.{AreJoined}
use Rattle.wl_air.specs.Listening.{Seen, NotBooked, IsSeenFault, numbers_of}

-- what the crates below say
pub record HearLaws : Type 0 where
  pub once : (octets : List ℕ) (a b : Result FrameValue Refusal) → ReadAs octets a → ReadAs octets b → a ≡ b
  pub lane_told : (kind other : Kind) (a2 : List ℕ) (pn number : ℕ) → IsKind kind → IsKind other → length a2 ≡ 6 → pn < 2 ^ 48 → number < 2 ^ 48
      → nonce kind a2 pn ≡ nonce other a2 number → (lane_of kind ≡ lane_of other) × (pn ≡ number)
  pub one_booking : (lanes : List (List Numbers)) (place other : ℕ) (a b : Numbers) → OrderRule lanes → Contains (list_at lanes place) a → Contains (list_at lanes other) b → same_pair a b ≡ true → (place ≡ other) × (a ≡ b)
  pub fits : (start : EndStart) (setup : Setup) (e : EndId) (link : ℕ) (octets : List ℕ) (reading : Result FrameValue Refusal) (c : Closed) → ReadAs octets reading → judged start setup e link reading ≡ ToOpen c → IsClosed c

-- ---- what a stored body leaves

-- a booking that was heard, whatever the window made of it
module _ (s p : EndState) (lane : Lane) (number : ℕ) (n : Numbers) where
  abbrev size : ℕ
  size = receive_size s.setup (lane_index lane)

  abbrev item : Arrival
  item = arrival_of p lane n

  leaves : (b : Bool) → is_above (last_of s.last lane) n.key n.pn ≡ b → (come : Arrived Arrival) → arrived (lane_at s (lane_index lane)).window number size item ≡ come → (if b then after_arrived lane item.body come s else s) ≡ after_hear lane number size item s
  leaves b above come is =
      ap (λ (c : Arrived Arrival). if b then after_arrived lane item.body c s else s) (sym is) ∙ ap (λ (x : Bool). if x then after_arrived lane item.body (arrived (lane_at s (lane_index lane)).window number size item) s else s) (sym above)

  by_come : (b : Bool) → is_above (last_of s.last lane) n.key n.pn ≡ b → (come : Arrived Arrival) → arrived (lane_at s (lane_index lane)).window number size item ≡ come
      → after_heard p (if b then hear_arrived lane number n (last_of s.last lane) come else outcomes.Replay) s ≡ after_hear lane number size item s
  by_come false above come is = leaves false above come is
  by_come true above Old is = leaves true above Old is
  by_come true above Doubled is = leaves true above Doubled is
  by_come true above (Stored moved) is = refl

  heard_leaves : after_heard p (hear_answer lane number size item s) s ≡ after_hear lane number size item s
  heard_leaves = by_come (is_above (last_of s.last lane) n.key n.pn) refl (arrived (lane_at s (lane_index lane)).window number size item) refl

plain_leaves : (p s : EndState) (o : Outcome) → IsPlain o → after_heard p o s ≡ s
plain_leaves p s (outcomes.Stored lane number n up) plain = absurd plain
plain_leaves p s other plain = refl

pub seen_leaves : (s p : EndState) (peek : Peek) (o : Outcome) (s' : EndState) → PeekFits peek → Seen s p peek o s' → s' ≡ after_heard p o s
seen_leaves s p (peeks.Answered answer) o s' fits (same, still) = still ∙ sym (ap (λ (x : Outcome). after_heard p x s) same ∙ plain_leaves p s answer fits)
seen_leaves s p (peeks.Opened four lane number pn) o s' fits (pos, b, answer, is) =
    is ∙ sym (ap (λ (x : Outcome). after_heard p x s) answer ∙ heard_leaves s p lane number (numbers_of four pn pos))

-- ---- bodies of management

-- a booking of management is of a body that an end makes
pub body_made : (p : EndState) → IsEnd p → (lane : Lane) (pn : ℕ) (four : Opened) (pos : ℕ) → IsBookingOf p lane pn four pos → IsBodyOn lane four.body
body_made p is (lanes.Tid tid) pn four pos b = tt
body_made p is lanes.Management pn four pos b = subst IsBody (ap (λ (o : Opened). o.body) b.sealed) (is.managed.made pos (is.sender.queued management (numbers_of four pn pos) b.booked))

-- ---- bookings and their texts

module _ (text : Sealing) (sealing : IsSealing text) (laws : HearLaws) (s p : EndState) (joined : AreJoined s p) (peer : IsEnd p) (in_range : (place : ℕ) (n : Numbers) → Contains (list_at p.booked place) n → InRange n) where
  -- what the peer seals is what the receiver opens
  peer_sealed : (lane : Lane) (n : Numbers) (body : List ℕ) → sealed_under p.start p.start.end lane n body ≡ sealed_under s.start (peer_of s.start.end) lane n body
  peer_sealed lane n body =
      ap (λ (e : EndId). sealed_under p.start e lane n body) joined.peer
      ∙ ap (λ (m : List ℕ). sealed_under (record p.start { ap = m }) (peer_of s.start.end) lane n body) joined.ap_same
      ∙ ap (λ (m : List ℕ). sealed_under (record p.start { ap = s.start.ap; sta = m }) (peer_of s.start.end) lane n body) joined.sta_same
      ∙ ap (λ (m : List ℕ). sealed_under (record p.start { ap = s.start.ap; sta = s.start.sta; key = m }) (peer_of s.start.end) lane n body) joined.key_same

  module _ (c : Closed) where
    abbrev bodies : List (List ℕ)
    bodies = (lane_at p (lane_index c.lane)).queue

    abbrev list : List Numbers
    list = list_of p.booked c.lane

    abbrev under : List ℕ → Opened
    under body = opened_under s.start s.start.end c body

    abbrev Nobody : Type 0
    Nobody = (b : List ℕ) → text_of text (under b) ≢ c.payload

    -- what a booking is sealed under, but for its position
    under_same : (n : Numbers) (body : List ℕ) → n.key ≡ c.key → n.pn ≡ c.pn → sealed_under p.start p.start.end c.lane n body ≡ under body
    under_same n body key pn =
        peer_sealed c.lane n body
        ∙ ap (λ (k : ℕ). sealed_under s.start (peer_of s.start.end) c.lane (record { pos = n.pos; key = k; pn = n.pn }) body) key
        ∙ ap (λ (x : ℕ). sealed_under s.start (peer_of s.start.end) c.lane (record { pos = n.pos; key = c.key; pn = x }) body) pn

    abbrev IsOf : Numbers → Bool
    IsOf n = is_of text s.start s.start.end c bodies n

    abbrev find : List Numbers → Option Numbers
    find ms = booking_of text s.start s.start.end c bodies ms

    found_by : (b : Bool) (m n : Numbers) (ms : List Numbers) → (b ≡ true → m ≡ n) → find ms ≡ Some n → (if b then Some m else find ms) ≡ Some n
    found_by true m n ms same later = ap (λ (x : Numbers). Some x) (same refl)
    found_by false m n ms same later = later

    one_found : (ms : List Numbers) (n : Numbers) → Contains ms n → IsOf n ≡ true → ((m : Numbers) → Contains ms m → IsOf m ≡ true → m ≡ n) → find ms ≡ Some n
    one_found [] n (k, lt, is) own only = absurd (omega (arith, lt))
    one_found (m ∷ ms) n (zero, lt, is) own only = ap (λ (b : Bool). if b then Some m else find ms) (ap (is_of text s.start s.start.end c bodies) is ∙ own) ∙ ap (λ (x : Numbers). Some x) is
    one_found (m ∷ ms) n (suc k, lt, is) own only =
        found_by (IsOf m) m n ms (λ yes'. only m (0, omega arith, refl) yes') (one_found ms n (k, omega (arith, lt), is) own (λ x there. only x (suc there.0, omega (arith, there.1), there.2)))

    text_found : (m : Numbers) → IsOf m ≡ true → text_of text (under (body_at bodies m.pos)) ≡ c.payload
    text_found m is = (bytes_eq-Decides _ _).0 (and_parts (m.pn == c.pn) _ (and_parts (m.key == c.key) _ is).1).1

    none_by : (b : Bool) (m : Numbers) (later : Option Numbers) → (b ≡ true → ⊥) → later ≡ None → (if b then Some m else later) ≡ None
    none_by true m later nobody is = absurd (nobody refl)
    none_by false m later nobody is = is

    -- where no body has the payload as its text, no booking is found
    none_found : Nobody → (ms : List Numbers) → find ms ≡ None
    none_found nobody [] = refl
    none_found nobody (m ∷ ms) = none_by (IsOf m) m (find ms) (λ is. nobody (body_at bodies m.pos) (text_found m is)) (none_found nobody ms)

    module _ (fits : IsClosed c) (four : Opened) (four_is : four ≡ under four.body) (opens : text_of text four ≡ c.payload) (sound : IsUnder four.key four.nonce four.aad) (body_is : IsBodyIn c.payload four.body) where
      key_is : four.key.number ≡ c.key
      key_is = ap (λ (o : Opened). o.key.number) four_is

      abbrev numbers : ℕ → Numbers
      numbers pos = numbers_of four c.pn pos

      -- the booking that has the four is the one that is found
      found : (pos : ℕ) → IsBookingOf p c.lane c.pn four pos → find list ≡ Some (numbers pos)
      found pos b =
          let n = numbers pos in
          let own : under (body_at bodies pos) ≡ four = sym (under_same n (body_at bodies pos) key_is refl) ∙ b.sealed in
          let alike : text_of text (under (body_at bodies pos)) ≡ c.payload = ap (text_of text) own ∙ opens in
          let here : IsOf n ≡ true = and_from _ _ (eq-eqb n.key c.key key_is) (and_from _ _ (eq-eqb n.pn c.pn refl) ((bytes_eq-Decides _ _).1 alike)) in
          one_found list n b.booked here (λ m there is.
          let parts = and_parts (m.key == c.key) _ is in
          (laws.one_booking p.booked (lane_index c.lane) (lane_index c.lane) m n peer.sender.rule there b.booked
          (and_from _ _ (eq-eqb m.key n.key (eqb-true m.key c.key parts.0 ∙ sym key_is)) (eq-eqb m.pn n.pn (eqb-true m.pn c.pn (and_parts (m.pn == c.pn) _ parts.1).0)))).1)

      -- what opens to the body of an MSDU opens to no other
      one_opened : length four.body ≤ 2304 → (other : Opened) → IsBodyIn c.payload other.body → other ≡ under other.body → text_of text other ≡ c.payload → other ≡ four
      one_opened short other other_body under' opens' =
          let own : Opened = under [] in
          let is : IsUnder own.key own.nonce own.aad = subst (λ (o : Opened). IsUnder o.key o.nonce o.aad) four_is sound in
          let can : CanSeal own.key own.nonce own.aad four.body = record { under = is; octets = body_is.octets; limit = omega (arith, short) } in
          let longer = sealing.longer own.key own.nonce own.aad four.body can in
          let payload : length (text own.key own.nonce own.aad four.body) ≡ length c.payload = ap (λ (t : List ℕ). length t) (ap (text_of text) (sym four_is) ∙ opens) in
          let can' : CanSeal own.key own.nonce own.aad other.body = record { under = is; octets = other_body.octets; limit = omega (arith, short, longer, payload, other_body.shorter) } in
          let texts : text_of text (under other.body) ≡ text_of text (under four.body) = ap (text_of text) (sym under') ∙ opens' ∙ sym opens ∙ ap (text_of text) four_is in
          under' ∙ ap under (sealing.one_body own.key own.nonce own.aad other.body four.body can' can texts) ∙ sym four_is

      -- what is booked isn't forged
      booked_unforged : (pos : ℕ) → IsBookingOf p c.lane c.pn four pos → (other : Opened) → ForgedAs text s p (ToOpen c) other → ⊥
      booked_unforged pos b other (under', opens', other_body, unbooked) =
          let short : length four.body ≤ 2304 = subst (λ (o : Opened). length o.body ≤ 2304) b.sealed (peer.short (lane_index c.lane) pos) in
          unbooked c.lane (numbers pos) fits.of_lane b.booked (b.sealed ∙ sym (one_opened short other other_body under' opens'))

      -- what no booking of the lane under the key and packet number has, none has
      all_unbooked : ((pos : ℕ) → IsBookingOf p c.lane c.pn four pos → ⊥) → IsUnbooked p four
      all_unbooked none lane n is_lane there sealed =
          let same : sealed_under s.start (peer_of s.start.end) lane n (body_at (lane_at p (lane_index lane)).queue n.pos) ≡ under four.body = sym (peer_sealed lane n (body_at (lane_at p (lane_index lane)).queue n.pos)) ∙ sealed ∙ four_is in
          let sender = peer_of s.start.end in
          let six : length (mld_of s.start sender) ≡ 6 =
          sym (ap (λ (x : List ℕ). length x) (ap (λ (o : List ℕ). mld_of (record p.start { ap = o }) p.start.end) joined.ap_same ∙ ap (λ (o : List ℕ). mld_of (record p.start { ap = s.start.ap; sta = o }) p.start.end) joined.sta_same ∙ ap (mld_of s.start) joined.peer)) ∙ joined.six in
          let nonces : nonce (kind_of sender lane) (mld_of s.start sender) n.pn ≡ nonce (kind_of sender c.lane) (mld_of s.start sender) c.pn = ap (λ (o : Opened). o.nonce) same in
          let told = laws.lane_told (kind_of sender lane) (kind_of sender c.lane) (mld_of s.start sender) n.pn c.pn (is_kind sender lane is_lane) (is_kind sender c.lane fits.of_lane) six (in_range (lane_index lane) n there).bound fits.pn_fits nonces in
          let lane_is : lane ≡ c.lane = sym (lane_back sender lane) ∙ told.0 ∙ lane_back sender c.lane in
          let key : n.key ≡ four.key.number = ap (λ (o : Opened). o.key.number) sealed in
          let n_is : n ≡ numbers n.pos = ap (λ (k : ℕ). let m : Numbers = record { pos = n.pos; key = k; pn = n.pn } in m) key ∙ ap (λ (x : ℕ). let m : Numbers = record { pos = n.pos; key = four.key.number; pn = x } in m) told.1 in
          none n.pos (record {
            booked = subst (λ (m : Numbers). Contains (list_of p.booked c.lane) m) n_is (subst (λ (x : Lane). Contains (list_of p.booked x) n) lane_is there);
            sealed = subst (λ (m : Numbers). sealed_under p.start p.start.end c.lane m (body_at bodies n.pos) ≡ four) n_is
                (subst (λ (x : Lane). sealed_under p.start p.start.end x n (body_at (lane_at p (lane_index x)).queue n.pos) ≡ four) lane_is sealed);
          })
        where
          is_kind : (sender : EndId) (x : Lane) → IsLane x → IsKind (kind_of sender x)
          is_kind sender (lanes.Tid tid) h = record { tid_fits = h; rest_fits = omega arith; no_tid = refl; no_amsdu = refl }
          is_kind sender lanes.Management h = tt

          lane_back : (sender : EndId) (x : Lane) → lane_of (kind_of sender x) ≡ x
          lane_back sender (lanes.Tid tid) = refl
          lane_back sender lanes.Management = refl

  -- ---- all cases

  -- what was seen is answered as the history says, and isn't forged
  pub record HeardWell (link : ℕ) (octets : List ℕ) (o : Outcome) : Type 0 where
    pub answer : HeardAs text s p link octets o
    pub unforged : (opened : Opened) → ForgedIf text s p link (Some octets) opened → ⊥

  module _ (link : ℕ) (octets : List ℕ) (peek : Peek) (seen : IsPeek text s link octets peek) where
    abbrev j : Judged
    j = judged_at s link seen.reading

    -- octets are read and judged in one way
    forged_as : (opened : Opened) → ForgedIf text s p link (Some octets) opened → ForgedAs text s p j opened
    forged_as opened (other, read, f) = subst (λ (r : Result FrameValue Refusal). ForgedAs text s p (judged_at s link r) opened) (laws.once octets other seen.reading read seen.read) f

    well : (k : Judged) → j ≡ k → (o : Outcome) → o ≡ judged_answer text s p k → ((opened : Opened) → ForgedAs text s p k opened → ⊥) → HeardWell link octets o
    well k is o answer none = record {
      answer = (seen.reading, seen.read, answer ∙ sym (ap (judged_answer text s p) is));
      unforged = λ opened forged. none opened (subst (λ (x : Judged). ForgedAs text s p x opened) is (forged_as opened forged));
    }

    opened_well : (c : Closed) → j ≡ ToOpen c → (q : Peek) → OpenedAs text s.start c q → (o : Outcome) (s' : EndState) → Seen s p q o s' → HeardWell link octets o
    opened_well c is (peeks.Answered answer) shut o s' (same, still) =
        well (ToOpen c) is o (same ∙ shut.answer ∙ sym (ap (opened_answer s p c) (none_found c (λ b opens. shut.shut b opens) (list c))))
        (λ opened (under', opens', body, unbooked). shut.shut opened.body (ap (text_of text) (sym under') ∙ opens'))
    opened_well c is (peeks.Opened four lane number pn) opened o s' (pos, b, answer, after) =
        let fits = laws.fits s.start s.setup s.start.end link octets seen.reading c seen.read is in
        let opens = ap (text_of text) opened.four_is ∙ opened.opens in
        let own : IsBookingOf p c.lane c.pn four pos = subst (λ (x : Lane). IsBookingOf p x c.pn four pos) opened.lane_is (subst (λ (x : ℕ). IsBookingOf p lane x four pos) opened.pn_is b) in
        let said : o ≡ hear_answer c.lane c.number (receive_size s.setup (lane_index c.lane)) (arrival_of p c.lane (numbers_of four c.pn pos)) s =
        subst (λ (x : Lane). o ≡ hear_answer x c.number (receive_size s.setup (lane_index x)) (arrival_of p x (numbers_of four c.pn pos)) s) opened.lane_is
        (subst (λ (x : ℕ). o ≡ hear_answer lane x (receive_size s.setup (lane_index lane)) (arrival_of p lane (numbers_of four c.pn pos)) s) opened.number_is
        (subst (λ (x : ℕ). o ≡ hear_answer lane number (receive_size s.setup (lane_index lane)) (arrival_of p lane (numbers_of four x pos)) s) opened.pn_is answer)) in
        well (ToOpen c) is o (said ∙ sym (ap (opened_answer s p c) (found c fits four opened.four_is opens opened.under opened.body_is pos own)))
        (booked_unforged c fits four opened.four_is opens opened.under opened.body_is pos own)

    judged_well : (k : Judged) → j ≡ k → PeekedAs text s.start k peek → (o : Outcome) (s' : EndState) → Seen s p peek o s' → HeardWell link octets o
    judged_well (Answered answer) is peeked o s' heard =
        let plain : Seen s p (peeks.Answered answer) o s' = subst (λ (q : Peek). Seen s p q o s') peeked heard in
        well (Answered answer) is o plain.0 (λ opened forged. forged)
    judged_well (ToOpen c) is peeked o s' heard = opened_well c is peek peeked o s' heard

    pub heard_well : (o : Outcome) (s' : EndState) → Seen s p peek o s' → HeardWell link octets o
    heard_well o s' heard = judged_well j refl seen.peeked o s' heard

    -- what the sender doesn't find is forged
    opened_forged : (c : Closed) → j ≡ ToOpen c → (q : Peek) → OpenedAs text s.start c q → (opened : Opened) → NotBooked p q opened → ForgedAs text s p (ToOpen c) opened
    opened_forged c is (peeks.Answered answer) shut opened forged = absurd forged
    opened_forged c is (peeks.Opened four lane number pn) own opened (same, none) =
        let fits = laws.fits s.start s.setup s.start.end link octets seen.reading c seen.read is in
        let opens = ap (text_of text) own.four_is ∙ own.opens in
        subst (ForgedAs text s p (ToOpen c)) (sym same) (
          own.four_is,
          opens,
          own.body_is,
          all_unbooked c fits four own.four_is opens own.under own.body_is
              (λ pos b. none pos (subst (λ (x : Lane). IsBookingOf p x pn four pos) (sym own.lane_is) (subst (λ (x : ℕ). IsBookingOf p c.lane x four pos) (sym own.pn_is) b))),
        )

    judged_forged : (k : Judged) → j ≡ k → PeekedAs text s.start k peek → (opened : Opened) → NotBooked p peek opened → ForgedAs text s p k opened
    judged_forged (Answered answer) is peeked opened forged = subst (λ (q : Peek). NotBooked p q opened) peeked forged
    judged_forged (ToOpen c) is peeked opened forged = opened_forged c is peek peeked opened forged

    pub heard_forged : (opened : Opened) → NotBooked p peek opened → ForgedIf text s p link (Some octets) opened
    heard_forged opened forged = (seen.reading, seen.read, judged_forged j refl seen.peeked opened forged)

-- ---- what was made of what was seen, where there was memory

module _ (text : Sealing) (sealing : IsSealing text) (laws : HearLaws) (s p : EndState) (peer : IsEnd p) (in_range : (place : ℕ) (n : Numbers) → Contains (list_at p.booked place) n → InRange n)
    (link : ℕ) (octets : List ℕ) (peek : Peek) (seen : IsPeek text s link octets peek) (named : Option (List ℕ)) (is : named ≡ Some octets) where
  pub if_answer : {T E : Type 0} (first : T → Outcome) (s' : EndState) (r : Result T E) → IfOk r (λ o. Seen s p peek (first o) s') → IfOk r (λ o. AreJoined s p → HeardIf text s p link named (first o))
  if_answer first s' (Ok o) heard = λ joined. subst (λ (x : Option (List ℕ)). HeardIf text s p link x (first o)) (sym is) (heard_well text sealing laws s p joined peer in_range link octets peek seen (first o) s' heard).answer
  if_answer first s' (Err f) heard = tt

  pub if_unforged : {T E : Type 0} (first : T → Outcome) (s' : EndState) (r : Result T E) → IfOk r (λ o. Seen s p peek (first o) s') → IfOk r (λ o. AreJoined s p → (opened : Opened) → ForgedIf text s p link named opened → ⊥)
  if_unforged first s' (Ok o) heard = λ joined opened forged.
      (heard_well text sealing laws s p joined peer in_range link octets peek seen (first o) s' heard).unforged opened (subst (λ (x : Option (List ℕ)). ForgedIf text s p link x opened) is forged)
  if_unforged first s' (Err f) heard = tt

  pub if_after : {T E : Type 0} (first : T → Outcome) (s' : EndState) (r : Result T E) → PeekFits peek → IfOk r (λ o. Seen s p peek (first o) s') → IfOk r (λ o. s' ≡ after_heard p (first o) s)
  if_after first s' (Ok o) fits heard = seen_leaves s p peek (first o) s' fits heard
  if_after first s' (Err f) fits heard = tt

  pub if_fault : {T : Type 0} (r : Result T StepFault) → IfErr r (IsSeenFault p peek) → IfErr r (λ f. AreJoined s p → IsHearFault text s p link named f)
  if_fault (Ok o) fault = tt
  if_fault (Err (faults.Forged opened)) fault = λ joined. subst (λ (x : Option (List ℕ)). ForgedIf text s p link x opened) (sym is) (heard_forged text sealing laws s p joined peer in_range link octets peek seen opened fault)
  if_fault (Err faults.Memory) fault = λ joined. tt
