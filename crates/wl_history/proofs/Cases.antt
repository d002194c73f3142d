-- The answers by cases: a property of each answer that a command can have.
use Rattle.std.proofs.Common.{◌≡◌, ℕ, suc, ◌-◌, Bool, true, false, List, [], ◌∷◌, Option, Some, None, Result, Ok, Err, refl, sym, ap, subst, ◌∙◌, arith, inl, inr}
use Rattle.std.specs.Prelude.{◌⊎◌, ◌==◌, nat_le, if◌then◌else◌, not, bytes_eq}
use Rattle.std.specs.List.{Contains}
use Rattle.wl_elem.specs.declared.fault.Refusal.{Refusal}
use Rattle.wl_elem.specs.declared.lane.EndId.{EndId}
use Rattle.wl_elem.specs.declared.lane.Lane.{Lane}
use Rattle.wl_elem.specs.declared.lane.Lane.TheVariants as lanes
use Rattle.wl_elem.specs.Lanes.{peer_of}
use Rattle.wl_frame.specs.declared.header.Kind.{Kind}
use Rattle.wl_frame.specs.declared.header.Kind.TheVariants.{Qos, Action, AssocAsk, AssocReply}
use Rattle.wl_frame.specs.declared.header.Protection.{Protection}
use Rattle.wl_frame.specs.Frame.{FrameValue}
use Rattle.wl_frame.specs.Sealing.{Sealing}
use Rattle.wl_number.specs.declared.numbers.Numbers.{Numbers}
use Rattle.wl_number.specs.NumberObject.{NumberObject, is_spent, drawn}
use Rattle.wl_window.specs.Originating.{Sending, reserved}
use Rattle.wl_window.specs.declared.refusal.OriginRefusal.TheVariants.{NothingQueued, WindowFull}
use Rattle.wl_history.specs.declared.hand.Hand.{Hand}
use Rattle.wl_history.specs.declared.hand.Hand.TheVariants as hand
use Rattle.wl_history.specs.declared.outcome.Outcome.{Outcome}
use Rattle.wl_history.specs.declared.outcome.Outcome.TheVariants as outcomes
use Rattle.wl_history.specs.declared.outcome.KeptWhy.{KeptWhy}
use Rattle.wl_history.specs.declared.setup.Setup.{Setup}
use Rattle.wl_history.specs.declared.start.EndStart.{EndStart}
use Rattle.wl_history.specs.Plain.{IsPlain}
use Rattle.wl_history.specs.Answers.{is_empty, granted_outcome, reserve_answer, book_answer, put_answer, again_answer, at_position}
use Rattle.wl_history.specs.Hearing.{is_down, Closed, Judged, Answered, ToOpen, with_key, judged_protected, judged_kind, judged, is_of, booking_of, is_own_way}
use Rattle.wl_history.specs.Ends.{link_address}
use Rattle.wl_elem.specs.declared.why.Why.TheVariants.{WrongAddress}

empty_hand : (h : Hand) → is_empty h ≡ true → h ≡ hand.Empty
empty_hand hand.Empty e = refl
empty_hand (hand.Reserve lane) e = absurd (cc e)
empty_hand (hand.Booking lane n) e = absurd (cc e)

granted_by : (P : Outcome → Type 0) (all full : Bool) (s : Sending) → P outcomes.NothingQueued → P outcomes.WindowFull → (all ≡ false → P outcomes.Reserved)
    → P (granted_outcome (if all then Err NothingQueued else (if full then Err WindowFull else Ok s)))
granted_by P true full s none window yes' = none
granted_by P false true s none window yes' = window
granted_by P false false s none window yes' = yes' refl

granted_cases : (P : Outcome → Type 0) (queued : ℕ) (s : Sending) (size : ℕ) → P outcomes.NothingQueued → P outcomes.WindowFull → ((s.granted == queued) ≡ false → P outcomes.Reserved) → P (granted_outcome (reserved s queued size))
unfolding reserved
granted_cases P queued s size none window yes' = granted_by P (s.granted == queued) (nat_le size (s.granted - s.base)) _ none window yes'

reserve_by : (P : Outcome → Type 0) (empty : Bool) (o : Outcome) → P outcomes.HandFull → (empty ≡ true → P o) → P (if empty then o else outcomes.HandFull)
reserve_by P false o full yes' = full
reserve_by P true o full yes' = yes' refl

pub reserve_cases : (P : Outcome → Type 0) (h : Hand) (queued : ℕ) (s : Sending) (size : ℕ) → P outcomes.HandFull → P outcomes.NothingQueued → P outcomes.WindowFull
    → (h ≡ hand.Empty → (s.granted == queued) ≡ false → P outcomes.Reserved) → P (reserve_answer h queued s size)
reserve_cases P h queued s size full none window yes' =
    reserve_by P (is_empty h) (granted_outcome (reserved s queued size)) full (λ e. granted_cases P queued s size none window (λ all. yes' (empty_hand h e) all))

book_by : (P : Outcome → Type 0) (lane : Lane) (spent : Bool) (n : Numbers) → P (outcomes.Spent lane) → P (outcomes.Booked lane n) → P (if spent then outcomes.Spent lane else outcomes.Booked lane n)
book_by P lane true n s b = s
book_by P lane false n s b = b

pub book_cases : (P : Outcome → Type 0) (h : Hand) (o : NumberObject) → P outcomes.NoReserve → ((lane : Lane) → h ≡ hand.Reserve lane → P (outcomes.Spent lane)) → ((lane : Lane) → h ≡ hand.Reserve lane → P (outcomes.Booked lane (drawn o lane))) → P (book_answer h o)
book_cases P hand.Empty o none spent booked = none
book_cases P (hand.Booking lane n) o none spent booked = none
book_cases P (hand.Reserve lane) o none spent booked = book_by P lane (is_spent o) (drawn o lane) (spent lane refl) (booked lane refl)

pub put_cases : (P : Outcome → Type 0) (lane : Lane) (n : Numbers) (done aired : Bool) (why : Option KeptWhy) → P outcomes.Nothing → ((reason : KeptWhy) → P (outcomes.Kept lane n.pos reason)) → (why ≡ None → P (outcomes.Put lane n aired)) → P (put_answer lane n done aired why)
put_cases P lane n true aired why none kept put = none
put_cases P lane n false aired None none kept put = put refl
put_cases P lane n false aired (Some reason) none kept put = kept reason

pub again_cases : (P : Outcome → Type 0) (n : Numbers) (done aired : Bool) (why : Option KeptWhy) → P outcomes.Nothing → ((reason : KeptWhy) → P (outcomes.KeptAgain reason)) → (why ≡ None → P (outcomes.PutAgain n aired)) → P (again_answer n done aired why)
again_cases P n true aired why none kept put = none
again_cases P n false aired None none kept put = put refl
again_cases P n false aired (Some reason) none kept put = kept reason

at_by : (b : Bool) (pos : ℕ) (m n : Numbers) (ms : List Numbers) → (at_position pos ms ≡ Some n → Contains ms n) → (if b then Some m else at_position pos ms) ≡ Some n → Contains (m ∷ ms) n
at_by true pos m n ms more found = let same : m ≡ n = cc in (0, omega arith, same)
at_by false pos m n ms more found = let old = more found in (suc old.0, omega (arith, old.1), old.2)

-- the numbers at a position are among those of the lane
pub at_there : (pos : ℕ) (ns : List Numbers) (n : Numbers) → at_position pos ns ≡ Some n → Contains ns n
at_there pos [] n found = absurd (cc found)
at_there pos (m ∷ ms) n found = at_by (m.pos == pos) pos m n ms (at_there pos ms n) found

-- ---- hearing

-- what is judged before the opening stores nothing
abbrev JudgedPlain : Judged → Type 0
JudgedPlain (Answered outcome) = IsPlain outcome
JudgedPlain (ToOpen closed) = Unit {0}

plain_key : (lane : Lane) (f : FrameValue) (p : Protection) (k : Option ℕ) → JudgedPlain (with_key lane f p k)
plain_key lane f p None = tt
plain_key lane f p (Some key) = tt

plain_protected : (newest : ℕ) (lane : Lane) (f : FrameValue) (p : Option Protection) → JudgedPlain (judged_protected newest lane f p)
plain_protected newest lane f None = tt
plain_protected newest lane f (Some p) = plain_key lane f p _

plain_kind : (newest : ℕ) (f : FrameValue) (k : Kind) → JudgedPlain (judged_kind newest f k)
plain_kind newest f (Qos to_ap tid rest) = plain_protected newest (lanes.Tid tid) f f.protection
plain_kind newest f Action = plain_protected newest lanes.Management f f.protection
plain_kind newest f AssocAsk = tt
plain_kind newest f AssocReply = tt

plain_by : (a b c d : Bool) (w x y z : Outcome) (last : Judged) → IsPlain w → IsPlain x → IsPlain y → IsPlain z → JudgedPlain last
    → JudgedPlain (if a then Answered w else if b then Answered x else if c then Answered y else if d then Answered z else last)
plain_by true b c d w x y z last p q r s t = p
plain_by false true c d w x y z last p q r s t = q
plain_by false false true d w x y z last p q r s t = r
plain_by false false false true w x y z last p q r s t = s
plain_by false false false false w x y z last p q r s t = t

pub judged_plain : (start : EndStart) (setup : Setup) (e : EndId) (link : ℕ) (reading : Result FrameValue Refusal) → JudgedPlain (judged start setup e link reading)
judged_plain start setup e link (Ok f) =
    plain_by (is_down setup link f.header.kind) (not (bytes_eq f.header.a1 (link_address start link e))) (not (bytes_eq f.header.a2 (link_address start link (peer_of e)))) (is_own_way e f.header.kind)
    outcomes.LinkDown (outcomes.BadFrame WrongAddress 4) (outcomes.BadFrame WrongAddress 10) (outcomes.BadFrame WrongAddress 1) (judged_kind setup.keys f f.header.kind) tt tt tt tt (plain_kind setup.keys f f.header.kind)
judged_plain start setup e link (Err refusal) = tt

pub plain_answer : (start : EndStart) (setup : Setup) (e : EndId) (link : ℕ) (reading : Result FrameValue Refusal) (outcome : Outcome) → judged start setup e link reading ≡ Answered outcome → IsPlain outcome
plain_answer start setup e link reading outcome is = subst JudgedPlain is (judged_plain start setup e link reading)

-- what is found by its text is one of the list, and has it
found_by : (b : Bool) (text : Sealing) (start : EndStart) (e : EndId) (c : Closed) (bodies : List (List ℕ)) (m n : Numbers) (ms : List Numbers) → is_of text start e c bodies m ≡ b
    → (if b then Some m else booking_of text start e c bodies ms) ≡ Some n → (is_of text start e c bodies n ≡ true) ⊎ (booking_of text start e c bodies ms ≡ Some n)
found_by true text start e c bodies m n ms is found = let same : m ≡ n = cc in inl (ap (is_of text start e c bodies) (sym same) ∙ is)
found_by false text start e c bodies m n ms is found = inr found

pub found_is_of : (text : Sealing) (start : EndStart) (e : EndId) (c : Closed) (bodies : List (List ℕ)) (ms : List Numbers) (n : Numbers) → booking_of text start e c bodies ms ≡ Some n → is_of text start e c bodies n ≡ true
found_is_of text start e c bodies [] n found = absurd (cc found)
found_is_of text start e c bodies (m ∷ ms) n found =
    elim (found_by (is_of text start e c bodies m) text start e c bodies m n ms refl found) [
      | inl is ↦ is
      | inr later ↦ found_is_of text start e c bodies ms n later
    ]

found_there_by : (b : Bool) (m n : Numbers) (ms : List Numbers) (later : Option Numbers) → (later ≡ Some n → Contains ms n) → (if b then Some m else later) ≡ Some n → Contains (m ∷ ms) n
found_there_by true m n ms later more found = let same : m ≡ n = cc in (0, omega arith, same)
found_there_by false m n ms later more found = let old = more found in (suc old.0, omega (arith, old.1), old.2)

pub found_there : (text : Sealing) (start : EndStart) (e : EndId) (c : Closed) (bodies : List (List ℕ)) (ms : List Numbers) (n : Numbers) → booking_of text start e c bodies ms ≡ Some n → Contains ms n
found_there text start e c bodies [] n found = absurd (cc found)
found_there text start e c bodies (m ∷ ms) n found = found_there_by (is_of text start e c bodies m) m n ms _ (found_there text start e c bodies ms n) found
