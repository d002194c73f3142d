-- What is sound is safe.
use Rattle.std.proofs.Common.{◌≡◌, ℕ, ◌-◌, ◌<◌, Bool, true, false, List, [], ◌∷◌, length, Option, Some, None, Result, Ok, Err, refl, sym, ap, subst, ◌∙◌, arith, inl, inr}
use Rattle.std.proofs.lemmas.Slice.Eq.{bytes_eq-Decides}
use Rattle.std.specs.Prelude.{◌==◌, ◌&&◌, nat_lt, not, if◌then◌else◌, bytes_eq}
use Rattle.std.specs.List.{Contains, AllByRecursion}
use Rattle.std.proofs.lemmas.Bool.{and_parts, eqb-true, ltb-true}
use Rattle.wl_elem.specs.declared.fault.Refusal.{Refusal}
use Rattle.wl_elem.specs.declared.lane.EndId.{EndId}
use Rattle.wl_elem.specs.declared.lane.Lane.{Lane}
use Rattle.wl_elem.specs.declared.lane.Lane.TheVariants as lanes
use Rattle.wl_elem.specs.Lanes.{peer_of, lane_index, lane_count, IsLane}
use Rattle.wl_elem.specs.declared.why.Why.TheVariants.{WrongAddress}
use Rattle.wl_frame.specs.Frame.{FrameValue}
use Rattle.wl_frame.specs.Refusals.{ReadAs}
use Rattle.wl_frame.specs.Sealing.{Sealing}
use Rattle.wl_frame.specs.declared.header.Kind.{Kind}
use Rattle.wl_frame.specs.declared.header.Kind.TheVariants.{Qos, Action, AssocAsk, AssocReply}
use Rattle.wl_frame.specs.declared.header.Protection.{Protection}
use Rattle.wl_number.specs.declared.numbers.Numbers.{Numbers}
use Rattle.wl_number.specs.OrderRule.{OrderRule, list_at, list_of, is_below}
use Rattle.wl_replay.specs.Keys.{held, Holds, key_id_of}
use Rattle.wl_replay.specs.Replay.{is_above, last_of}
use Rattle.wl_window.specs.Reordering.{Arrived, Old, Doubled, Stored, arrived}
use Rattle.wl_history.specs.declared.hand.Hand.{Hand}
use Rattle.wl_history.specs.declared.hand.Hand.TheVariants as hand
use Rattle.wl_history.specs.declared.arrival.Arrival.{Arrival}
use Rattle.wl_history.specs.declared.command.Command.{Command}
use Rattle.wl_history.specs.declared.command.Command.TheVariants as commands
use Rattle.wl_history.specs.declared.outcome.Outcome.{Outcome}
use Rattle.wl_history.specs.declared.outcome.Outcome.TheVariants as outcomes
use Rattle.wl_history.specs.declared.outcome.KeptWhy.TheVariants.{NotSetUp, Unpowered, Unmapped}
use Rattle.wl_history.specs.declared.setup.Setup.{Setup}
use Rattle.wl_history.specs.declared.start.EndStart.{EndStart}
use Rattle.wl_history.specs.declared.start.Start.{Start}
use Rattle.wl_history.specs.declared.step.Step.{Step}
use Rattle.wl_history.specs.Ends.{start_of, link_address, IsAllowed, is_set_up, is_powered, is_mapped, why_kept}
use Rattle.wl_history.specs.Hands.{hand_of}
use Rattle.wl_history.specs.Words.{setup_of, queued, body_at, booked, Airing, receiving}
use Rattle.wl_history.specs.Answers.{put_of, again_of, booked_at}
use Rattle.wl_history.specs.EndState.{EndState, lane_at, arrival_of, hear_arrived, hear_answer}
use Rattle.wl_history.specs.AirState.{AirState, end_of, octets_heard, state_of}
use Rattle.wl_history.specs.Hearing.{is_down, Closed, Judged, Answered, ToOpen, with_key, judged_protected, judged_kind, judged, is_of, sealed_under, opened_under, text_of, is_own_way}
use Rattle.wl_history.specs.Plain.{IsPlain}
use Rattle.wl_history.specs.Legal.{IsAnswer, Legal, HeardIf, judged_at, judged_answer, opened_answer, booking_found}
use Rattle.wl_history.specs.Safe.{InOrder, OrderKept, IsSame, NumbersKept, PutAllowed, AgainAllowed, StepAllowed, LinksKept, HeardOpened, StepOpened, KeysKept, Safe}
use Rattle.wl_history.specs.Below.{NumberLaws, WindowLaws, MessageLaws}
use Rattle.wl_history.proofs.Growing.{AiredWell, contains_within}
use Rattle.wl_history.proofs.Receiving.{every, Rising, Trans}
use Rattle.wl_history.proofs.Cases.{put_cases, again_cases, plain_answer, found_is_of, found_there}
use Rattle.wl_history.proofs.Sound.{Sound, all_sound, own_end, legal_start}

-- what the order of bookings says of two
pub record OrderLaws : Type 0 where
  pub trans : Trans
  pub by_pair : (lanes : List (List Numbers)) (place : ℕ) (a b : Numbers) → OrderRule lanes → Contains (list_at lanes place) a → Contains (list_at lanes place) b → is_below a b ≡ true → a.pos < b.pos
  pub one_booking : (lanes : List (List Numbers)) (place other : ℕ) (a b : Numbers) → OrderRule lanes → Contains (list_at lanes place) a → Contains (list_at lanes other) b → a.key ≡ b.key → a.pn ≡ b.pn → (place ≡ other) × (a ≡ b)

-- ---- order

every_two : {A : Type 0} (P Q R : A → Type 0) → ((x : A) → P x → Q x → R x) → (xs : List A) → AllByRecursion P xs → AllByRecursion Q xs → AllByRecursion R xs
every_two P Q R f [] p q = tt
every_two P Q R f (x ∷ xs) p q = (f x p.0 q.0, every_two P Q R f xs p.1 q.1)

module _ (laws : OrderLaws) (booked_at_end : List (List Numbers)) (rule : OrderRule booked_at_end) (l : ℕ) where
  abbrev IsBooked : Arrival → Type 0
  IsBooked item = Contains (list_at booked_at_end l) item.numbers

  in_order : (released : List Arrival) → AllByRecursion IsBooked released → Rising released → InOrder released
  in_order [] there rising = tt
  in_order (item ∷ before) there rising = (
    every_two IsBooked (λ (other : Arrival). is_below other.numbers item.numbers ≡ true) (λ (other : Arrival). other.numbers.pos < item.numbers.pos)
        (λ other is below. laws.by_pair booked_at_end l other.numbers item.numbers rule is there.0 below) before there.1 rising.0,
    in_order before there.1 rising.1,
  )

rule_of : (text : Sealing) (start : Start) (air : AirState) (steps : List Step) → Sound text start air steps → (e : EndId) → OrderRule (booked e steps)
rule_of text start air steps sound e = subst OrderRule (sound.told e).booked_are (sound.ends e).sender.rule

order_kept : OrderLaws → (text : Sealing) (start : Start) (air : AirState) (steps : List Step) → Sound text start air steps → (e : EndId) (l : ℕ) → OrderKept start e l steps
order_kept laws text start air steps sound e l = record {
  in_order = in_order laws (booked (peer_of e) steps) (rule_of text start air steps sound (peer_of e)) l (receiving start e l steps).released
      (every _ _ (λ item b. b.booked) (receiving start e l steps).released (sound.got e l).released_good) (sound.got e l).rising;
  queued_there = every _ _ (λ item b. record { within = b.within; same = b.same }) (receiving start e l steps).released (sound.got e l).released_good;
}

-- ---- numbers

-- two lanes of one place are one
same_place : (a b : Lane) → IsLane a → IsLane b → lane_index a ≡ lane_index b → a ≡ b
same_place (lanes.Tid a) (lanes.Tid b) p q e = ap (λ (n : ℕ). lanes.Tid n) e
same_place (lanes.Tid a) lanes.Management p q e = absurd (omega (arith, p, e))
same_place lanes.Management (lanes.Tid b) p q e = absurd (omega (arith, q, e))
same_place lanes.Management lanes.Management p q e = refl

module _ (laws : OrderLaws) (text : Sealing) (start : Start) (air : AirState) (steps : List Step) (sound : Sound text start air steps) (e : EndId) where
  abbrev Well : Airing → Type 0
  Well a = AiredWell (λ l. queued start e l steps) (booked e steps) a

  one_text : (a b : Airing) → Well a → Well b → a.numbers.key ≡ b.numbers.key → a.numbers.pn ≡ b.numbers.pn → IsSame text (start_of start e) e a b
  one_text a b p q keys pns =
      let one = laws.one_booking (booked e steps) (lane_index a.lane) (lane_index b.lane) a.numbers b.numbers (rule_of text start air steps sound e) p.booking.booked q.booking.booked keys pns in
      let lane : a.lane ≡ b.lane = same_place a.lane b.lane p.of_lane q.of_lane one.0 in
      let body : a.body ≡ b.body =
      p.booking.same ∙ ap (λ (l : ℕ). body_at (queued start e l steps) a.numbers.pos) one.0 ∙ ap (λ (n : Numbers). body_at (queued start e (lane_index b.lane) steps) n.pos) one.1 ∙ sym q.booking.same in
      record {
        lane = lane;
        numbers = one.1;
        text_alike =
            ap (λ (x : Lane). text_of text (sealed_under (start_of start e) e x a.numbers a.body)) lane
            ∙ ap (λ (n : Numbers). text_of text (sealed_under (start_of start e) e b.lane n a.body)) one.1
            ∙ ap (λ (x : List ℕ). text_of text (sealed_under (start_of start e) e b.lane b.numbers x)) body;
      }

  booked_queued : (lane : Lane) (n : Numbers) → Contains (list_of (booked e steps) lane) n → n.pos < length (queued start e (lane_index lane) steps)
  booked_queued lane n is =
      let s = end_of air e in
      let there : Contains (list_of s.booked lane) n = subst (λ (bs : List (List Numbers)). Contains (list_of bs lane) n) (sym (sound.told e).booked_are) is in
      let lt : lane_index lane < lane_count = omega (arith, contains_within s.booked (lane_index lane) n there, (sound.ends e).sender.nine) in
      let pos = (sound.ends e).sender.queued (lane_index lane) n there in
      omega (arith, pos, ap (λ (q : List (List ℕ)). length q) ((sound.told e).lanes (lane_index lane) lt).queue_is)

  numbers_kept : NumbersKept text start e steps
  numbers_kept = record {
    rule = rule_of text start air steps sound e;
    booked_queued = booked_queued;
    aired_booked = λ a is. (sound.aired e a is).booking.booked;
    one_text = λ a b p q keys pns. one_text a b (sound.aired e a p) (sound.aired e b q) keys pns;
  }

-- ---- links

-- what isn't kept is allowed
allowed_by : (e : EndId) (setup : Setup) (lane : Lane) (link : ℕ) (up on mapped : Bool) → is_set_up setup link ≡ up → is_powered setup link ≡ on → is_mapped e setup lane link ≡ mapped
    → (if not up then Some NotSetUp else if not on then Some Unpowered else if not mapped then Some Unmapped else None) ≡ None → IsAllowed e setup lane link
allowed_by e setup lane link true true true p q r none = record { set_up = p; powered = q; mapped = r }
allowed_by e setup lane link true true false p q r none = absurd (cc none)
allowed_by e setup lane link true false mapped p q r none = absurd (cc none)
allowed_by e setup lane link false on mapped p q r none = absurd (cc none)

allowed : (e : EndId) (setup : Setup) (lane : Lane) (link : ℕ) → why_kept e setup lane link ≡ None → IsAllowed e setup lane link
allowed e setup lane link none = allowed_by e setup lane link _ _ _ refl refl refl none

put_allowed : (s : EndState) (link : ℕ) (h : Hand) → PutAllowed s.start.end s.setup link (put_of link h s)
put_allowed s link hand.Empty = tt
put_allowed s link (hand.Reserve lane) = tt
put_allowed s link (hand.Booking lane n) = put_cases (PutAllowed s.start.end s.setup link) lane n _ _ _ tt (λ why. tt) (λ none. allowed s.start.end s.setup lane link none)

again_allowed : (s : EndState) (link : ℕ) (lane : Lane) (found : Option Numbers) → AgainAllowed s.start.end s.setup link lane (again_of link lane found s)
again_allowed s link lane None = tt
again_allowed s link lane (Some n) = again_cases (AgainAllowed s.start.end s.setup link lane) n _ _ _ tt (λ why. tt) (λ none. allowed s.start.end s.setup lane link none)

-- an end is the one that it is, and has set up what the words say
pub record IsOwn (start : Start) (before : List Step) (e : EndId) (s : EndState) : Type 0 where
  pub end_is : s.start.end ≡ e
  pub setup_is : s.setup ≡ setup_of start e before

step_allowed : (text : Sealing) (start : Start) (air : AirState) (before : List Step) → ((e : EndId) → IsOwn start before e (end_of air e)) → (thread : ℕ) (command : Command) (outcome : Outcome)
    → IsAnswer text thread command air outcome → StepAllowed start before command outcome
step_allowed text start air before own thread (commands.Put end link) outcome is =
    let s = end_of air end in
    let held = hand_of s.hands thread in
    subst (PutAllowed end (setup_of start end before) link) (sym is)
    (subst (λ (setup : Setup). PutAllowed end setup link (put_of link held s)) (own end).setup_is (subst (λ (e : EndId). PutAllowed e s.setup link (put_of link held s)) (own end).end_is (put_allowed s link held)))
step_allowed text start air before own thread (commands.Again end link lane pos) outcome is =
    let s = end_of air end in
    let found = booked_at s lane pos in
    subst (AgainAllowed end (setup_of start end before) link lane) (sym is)
    (subst (λ (setup : Setup). AgainAllowed end setup link lane (again_of link lane found s)) (own end).setup_is (subst (λ (e : EndId). AgainAllowed e s.setup link lane (again_of link lane found s)) (own end).end_is (again_allowed s link lane found)))
step_allowed text start air before own thread other outcome is = tt

links_kept : NumberLaws → WindowLaws → MessageLaws → Trans → (text : Sealing) (start : Start) (steps : List Step) → Legal text start steps → LinksKept start steps
links_kept numbers windows messages trans text start [] legal = tt
links_kept numbers windows messages trans text start (step ∷ before) legal = (
  links_kept numbers windows messages trans text start before legal.0,
  step_allowed text start (state_of text start before) before
      (λ e. let told = (all_sound numbers windows messages trans text start before legal.0).told e in record { end_is = ap (λ (x : EndStart). x.end) told.start_is ∙ own_end start (legal_start text start before legal.0) e; setup_is = told.setup_is })
      step.thread step.command step.outcome legal.1.answer,
)

-- ---- keys

-- what is to be opened was held a key for
abbrev KeyHeld : ℕ → Judged → Type 0
KeyHeld newest (Answered outcome) = Unit {0}
KeyHeld newest (ToOpen c) = Holds newest c.key

holds_by : (a b : Bool) (newest key_id key : ℕ) → (key_id_of newest == key_id) ≡ a → (nat_lt 0 newest && key_id_of (newest - 1) == key_id) ≡ b → (if a then Some newest else (if b then Some (newest - 1) else None)) ≡ Some key → Holds newest key
holds_by true b newest key_id key p q is = let same : newest ≡ key = cc in inl (sym same)
holds_by false true newest key_id key p q is =
    let same : newest - 1 ≡ key = cc in
    let some : 0 < newest = ltb-true 0 newest (and_parts (nat_lt 0 newest) _ q).0 in
    inr (omega (arith, same, some))
holds_by false false newest key_id key p q is = absurd (cc is)

holds : (newest key_id key : ℕ) → held newest key_id ≡ Some key → Holds newest key
holds newest key_id key is = holds_by (key_id_of newest == key_id) (nat_lt 0 newest && key_id_of (newest - 1) == key_id) newest key_id key refl refl is

key_with : (newest : ℕ) (lane : Lane) (f : FrameValue) (p : Protection) (k : Option ℕ) → held newest p.key_id ≡ k → KeyHeld newest (with_key lane f p k)
key_with newest lane f p None is = tt
key_with newest lane f p (Some key) is = holds newest p.key_id key is

key_protected : (newest : ℕ) (lane : Lane) (f : FrameValue) (p : Option Protection) → KeyHeld newest (judged_protected newest lane f p)
key_protected newest lane f None = tt
key_protected newest lane f (Some p) = key_with newest lane f p (held newest p.key_id) refl

key_kind : (newest : ℕ) (f : FrameValue) (k : Kind) → KeyHeld newest (judged_kind newest f k)
key_kind newest f (Qos to_ap tid rest) = key_protected newest (lanes.Tid tid) f f.protection
key_kind newest f Action = key_protected newest lanes.Management f f.protection
key_kind newest f AssocAsk = tt
key_kind newest f AssocReply = tt

key_after : (newest : ℕ) (a b c d : Bool) (w x y z : Outcome) (j : Judged) → KeyHeld newest j → KeyHeld newest (if a then Answered w else if b then Answered x else if c then Answered y else if d then Answered z else j)
key_after newest true b c d w x y z j h = tt
key_after newest false true c d w x y z j h = tt
key_after newest false false true d w x y z j h = tt
key_after newest false false false true w x y z j h = tt
key_after newest false false false false w x y z j h = h

key_judged : (start : EndStart) (setup : Setup) (e : EndId) (link : ℕ) (reading : Result FrameValue Refusal) → KeyHeld setup.keys (judged start setup e link reading)
key_judged start setup e link (Err refusal) = tt
key_judged start setup e link (Ok f) =
    key_after setup.keys (is_down setup link f.header.kind) (not (bytes_eq f.header.a1 (link_address start link e))) (not (bytes_eq f.header.a2 (link_address start link (peer_of e)))) (is_own_way e f.header.kind)
    outcomes.LinkDown (outcomes.BadFrame WrongAddress 4) (outcomes.BadFrame WrongAddress 10) (outcomes.BadFrame WrongAddress 1) (judged_kind setup.keys f f.header.kind) (key_kind setup.keys f f.header.kind)

same_key : (text : Sealing) (start : EndStart) (e : EndId) (c : Closed) (bodies : List (List ℕ)) (n : Numbers) → is_of text start e c bodies n ≡ true → n.key ≡ c.key
same_key text start e c bodies n is = eqb-true n.key c.key (and_parts (n.key == c.key) _ is).0

text_is : (text : Sealing) (start : EndStart) (e : EndId) (c : Closed) (bodies : List (List ℕ)) (n : Numbers) → is_of text start e c bodies n ≡ true → text_of text (opened_under start e c (body_at bodies n.pos)) ≡ c.payload
text_is text start e c bodies n is = (bytes_eq-Decides _ _).0 (and_parts (n.pn == c.pn) _ (and_parts (n.key == c.key) _ is).1).1

module _ (text : Sealing) (s sender : EndState) (link : ℕ) where
  quiet : (octets : Option (List ℕ)) (outcome : Outcome) → IsPlain outcome → HeardOpened text s sender link octets outcome
  quiet octets (outcomes.Stored lane number n up) none = absurd none
  quiet octets other none = tt

  -- of what is heard only what is stored says something
  heard_by : (P : Outcome → Type 0) (lane : Lane) (number size : ℕ) (n : Numbers) → P outcomes.Replay → P outcomes.OldNumber → P outcomes.Double → ((up : List ℕ) → P (outcomes.Stored lane number n up)) → P (hear_answer lane number size (arrival_of sender lane n) s)
  heard_by P lane number size n replay old double stored = by_above (is_above (last_of s.last lane) n.key n.pn) (arrived (lane_at s (lane_index lane)).window number size (arrival_of sender lane n))
    where
      by_above : (b : Bool) (come : Arrived Arrival) → P (if b then hear_arrived lane number n (last_of s.last lane) come else outcomes.Replay)
      by_above false come = replay
      by_above true Old = old
      by_above true Doubled = double
      by_above true (Stored moved) = stored _

  module _ (octets : List ℕ) (reading : Result FrameValue Refusal) (read : ReadAs octets reading) where
    opened_found : (c : Closed) → judged_at s link reading ≡ ToOpen c → (found : Option Numbers) → booking_found text s sender c ≡ found → HeardOpened text s sender link (Some octets) (opened_answer s sender c found)
    opened_found c is None found = tt
    opened_found c is (Some n) found =
        let queue = (lane_at sender (lane_index c.lane)).queue in
        let own = found_is_of text s.start s.start.end c queue (list_of sender.booked c.lane) n found in
        heard_by (HeardOpened text s sender link (Some octets)) c.lane c.number _ n tt tt tt (λ up. record {
          reading = reading;
          read = read;
          closed = c;
          to_open = is;
          lane_same = refl;
          key_held = (let key = subst (KeyHeld s.setup.keys) is (key_judged s.start s.setup s.start.end link reading) in subst (λ (k : ℕ). Holds s.setup.keys k) (sym (same_key text s.start s.start.end c queue n own)) key);
          of_sender = found_there text s.start s.start.end c queue (list_of sender.booked c.lane) n found;
          opens = text_is text s.start s.start.end c queue n own;
        })

    opened_judged : (j : Judged) → judged_at s link reading ≡ j → HeardOpened text s sender link (Some octets) (judged_answer text s sender j)
    opened_judged (Answered outcome) is = quiet (Some octets) outcome (plain_answer s.start s.setup s.start.end link reading outcome is)
    opened_judged (ToOpen c) is = opened_found c is _ refl

  heard_opened : (octets : Option (List ℕ)) (outcome : Outcome) → HeardIf text s sender link octets outcome → HeardOpened text s sender link octets outcome
  heard_opened None outcome is = subst (HeardOpened text s sender link None) (sym is) tt
  heard_opened (Some octets) outcome (reading, read, is) = subst (HeardOpened text s sender link (Some octets)) (sym is) (opened_judged octets reading read (judged_at s link reading) refl)

step_opened : (text : Sealing) (air : AirState) (thread : ℕ) (command : Command) (outcome : Outcome) → IsAnswer text thread command air outcome → StepOpened text air command outcome
step_opened text air thread (commands.Deliver end link nth) outcome is = heard_opened text (end_of air end) (end_of air (peer_of end)) link (octets_heard text (commands.Deliver end link nth) air) outcome is
step_opened text air thread (commands.Alter end link nth number) outcome is = heard_opened text (end_of air end) (end_of air (peer_of end)) link (octets_heard text (commands.Alter end link nth number) air) outcome is
step_opened text air thread (commands.Forge end link lane key pn number body) outcome is = heard_opened text (end_of air end) (end_of air (peer_of end)) link (octets_heard text (commands.Forge end link lane key pn number body) air) outcome is
step_opened text air thread (commands.Inject end link octets) outcome is = heard_opened text (end_of air end) (end_of air (peer_of end)) link (octets_heard text (commands.Inject end link octets) air) outcome is
step_opened text air thread other outcome is = tt

keys_kept : (text : Sealing) (start : Start) (steps : List Step) → Legal text start steps → KeysKept text start steps
keys_kept text start [] legal = tt
keys_kept text start (step ∷ before) legal = (keys_kept text start before legal.0, step_opened text (state_of text start before) step.thread step.command step.outcome legal.1.answer)

-- ---- all

pub safe : NumberLaws → WindowLaws → MessageLaws → OrderLaws → (text : Sealing) (start : Start) (steps : List Step) → Legal text start steps → Safe text start steps
safe numbers windows messages laws text start steps legal =
    let air = state_of text start steps in
    let sound = all_sound numbers windows messages laws.trans text start steps legal in
    record {
      order = λ e lane. order_kept laws text start air steps sound e (lane_index lane);
      numbers = numbers_kept laws text start air steps sound;
      links = links_kept numbers windows messages laws.trans text start steps legal;
      keys = keys_kept text start steps legal;
    }
