-- The originator of a block ack agreement (IEEE Std 802.11, 10.25.7): which positions of a queue were
-- let go, which of them have a number, and which are done.
use Rattle.std.specs.Prelude.{◌≡◌, ℕ, zero, suc, ◌+◌, ◌-◌, ◌^◌, ◌<◌, ◌≤◌, ◌==◌, nat_lt, nat_le, Bool, true, false, ◌||◌, if◌then◌else◌, List, [], ◌∷◌, length, slice_get, Option, Some, None, Result, Ok, Err}
use Rattle.wl_window.specs.Numbering.{distance}
use Rattle.wl_window.specs.declared.mark.Mark.{Mark}
use Rattle.wl_window.specs.declared.mark.Mark.TheVariants.{Free, Booked, Done}
use Rattle.wl_window.specs.declared.refusal.OriginRefusal.{OriginRefusal}
use Rattle.wl_window.specs.declared.refusal.OriginRefusal.TheVariants.{NothingQueued, WindowFull}
use Rattle.wl_window.specs.declared.refusal.MoveRefusal.{MoveRefusal}
use Rattle.wl_window.specs.declared.refusal.MoveRefusal.TheVariants.{NotBooked, Behind}

-- ---- what is known

-- How many positions were let go, the least one that isn't done, and the marks from there on, up to
-- the greatest booked one. Booked positions that are acknowledged or given up are done.
pub record Sending : Type 0 where
  pub granted : ℕ
  pub base : ℕ
  pub marks : List Mark

-- what is known, and for how many marks there is memory
pub record Ledger : Type 0 where
  pub room : ℕ
  pub sending : Sending

-- one past the greatest booked position, or the base
abbrev pub top : Sending → ℕ
top s = s.base + length s.marks

-- what a mark says, where there is one
abbrev pub free_mark : Mark → Bool
free_mark Free = true
free_mark Booked = false
free_mark Done = false

abbrev pub open_mark : Option Mark → Bool
open_mark None = false
open_mark (Some Free) = false
open_mark (Some Booked) = true
open_mark (Some Done) = false

abbrev pub done_mark : Option Mark → Bool
done_mark None = false
done_mark (Some Free) = false
done_mark (Some Booked) = false
done_mark (Some Done) = true

abbrev pub booked_mark : Option Mark → Bool
booked_mark None = false
booked_mark (Some Free) = false
booked_mark (Some Booked) = true
booked_mark (Some Done) = true

-- whether a position is done
abbrev pub is_done : Sending → ℕ → Bool
is_done s pos = nat_lt pos s.base || done_mark (slice_get s.marks (pos - s.base))

-- whether a position is booked, and perhaps done
abbrev pub is_booked : Sending → ℕ → Bool
is_booked s pos = nat_lt pos s.base || booked_mark (slice_get s.marks (pos - s.base))

abbrev pub booked_marks : List Mark → ℕ
booked_marks [] = 0
booked_marks (Free ∷ marks) = booked_marks marks
booked_marks (Booked ∷ marks) = suc (booked_marks marks)
booked_marks (Done ∷ marks) = suc (booked_marks marks)

-- how many positions are booked
abbrev pub booked_count : Sending → ℕ
booked_count s = s.base + booked_marks s.marks

abbrev pub ends_free : List Mark → Bool
ends_free [] = false
ends_free (mark ∷ []) = free_mark mark
ends_free (mark ∷ next ∷ marks) = ends_free (next ∷ marks)

-- what holds of each originator
pub record IsSending (s : Sending) : Type 0 where
  pub granted_limit : s.granted < 2 ^ 32
  pub top_limit : top s < 2 ^ 32
  -- the base isn't done
  pub first : done_mark (slice_get s.marks 0) ≡ false
  -- the last mark is of a booked position
  pub last : ends_free s.marks ≡ false
  -- no more are booked than were let go
  pub booked : booked_count s ≤ s.granted

-- the same positions are let go and booked
pub record Keeps (s t : Sending) : Type 0 where
  pub granted : t.granted ≡ s.granted
  pub marks : (pos : ℕ) → is_booked t pos ≡ is_booked s pos
  pub counts : booked_count t ≡ booked_count s

-- ---- letting go and booking

-- A position is let go, unless so many were as are queued, or the window of this size is full.
unfoldable pub reserved : Sending → ℕ → ℕ → Result Sending OriginRefusal
reserved s queued size =
    if s.granted == queued then Err NothingQueued
    else (if nat_le size (s.granted - s.base) then Err WindowFull
    else Ok (record { granted = s.granted + 1; base = s.base; marks = s.marks }))

-- the mark at this index is booked, with free ones before it where there was none
abbrev pub book_at : ℕ → List Mark → List Mark
book_at zero [] = Booked ∷ []
book_at zero (mark ∷ marks) = Booked ∷ marks
book_at (suc index) [] = Free ∷ book_at index []
book_at (suc index) (mark ∷ marks) = mark ∷ book_at index marks

abbrev pub with_booked : Sending → ℕ → Sending
with_booked s pos = record { granted = s.granted; base = s.base; marks = book_at (pos - s.base) s.marks }

-- ---- what is done

-- what a booked mark becomes
abbrev pub finish : Bool → Mark → Mark
finish true Free = Free
finish true Booked = Done
finish true Done = Done
finish false mark = mark

-- the booked marks whose index passes the test become done
abbrev pub finished : (ℕ → Bool) → List Mark → List Mark
finished passes [] = []
finished passes (mark ∷ marks) = finish (passes 0) mark ∷ finished (λ index. passes (suc index)) marks

abbrev pub finishes : Bool → Mark → ℕ
finishes true Free = 0
finishes true Booked = 1
finishes true Done = 0
finishes false mark = 0

-- how many marks become done
abbrev pub newly : (ℕ → Bool) → List Mark → ℕ
newly passes [] = 0
newly passes (mark ∷ marks) = finishes (passes 0) mark + newly (λ index. passes (suc index)) marks

-- the base passes the positions that are done
abbrev pub settled : ℕ → ℕ → List Mark → Sending
settled granted base [] = record { granted = granted; base = base; marks = [] }
settled granted base (Free ∷ marks) = record { granted = granted; base = base; marks = Free ∷ marks }
settled granted base (Booked ∷ marks) = record { granted = granted; base = base; marks = Booked ∷ marks }
settled granted base (Done ∷ marks) = settled granted (base + 1) marks

-- ---- acknowledging

-- some of these 12-bit numbers is that of the position at this index from the base
abbrev pub names : ℕ → List ℕ → ℕ → Bool
names base [] index = false
names base (number ∷ numbers) index = distance base number == index || names base numbers index

-- what an ack acknowledges, by the index from the base: all before its start, and what it names
abbrev pub acknowledges : ℕ → ℕ → List ℕ → ℕ → Bool
acknowledges base ahead stored index = nat_lt index ahead || names base stored index

-- how many positions an ack made done, and what is known then
pub record Acked : Type 0 where
  pub newly : ℕ
  pub sending : Sending

-- An ack with this window start and these stored numbers. One that starts past the top is old.
unfoldable pub acked : Sending → ℕ → List ℕ → Option Acked
acked s start stored =
    let ahead = distance s.base start in
    if nat_lt (length s.marks) ahead then None
    else Some (record { newly = newly (acknowledges s.base ahead stored) s.marks; sending = settled s.granted s.base (finished (acknowledges s.base ahead stored) s.marks) })

-- ---- giving up

-- some of so many marks isn't booked
abbrev pub has_free : ℕ → List Mark → Bool
has_free zero marks = false
has_free (suc count) [] = false
has_free (suc count) (mark ∷ marks) = free_mark mark || has_free count marks

-- All positions below `to` are done, where they are booked. They have to reach past the base.
unfoldable pub given_up : Sending → ℕ → Result Sending MoveRefusal
given_up s to =
    if nat_lt (top s) to || has_free (to - s.base) s.marks then Err NotBooked
    else (if nat_le to s.base then Err Behind
    else Ok (settled s.granted s.base (finished (λ index. nat_lt index (to - s.base)) s.marks)))

-- ---- what calls answer and leave

abbrev pub sending_after : {E : Type 0} → Sending → Result Sending E → Sending
sending_after s (Ok t) = t
sending_after s (Err why) = s

abbrev pub granted_answer : Result Sending OriginRefusal → Result (Unit {0}) OriginRefusal
granted_answer (Ok t) = Ok tt
granted_answer (Err why) = Err why

abbrev pub base_answer : Result Sending MoveRefusal → Result ℕ MoveRefusal
base_answer (Ok t) = Ok t.base
base_answer (Err why) = Err why

abbrev pub newly_answer : Option Acked → Option ℕ
newly_answer None = None
newly_answer (Some a) = Some a.newly

abbrev pub sending_acked : Sending → Option Acked → Sending
sending_acked s None = s
sending_acked s (Some a) = a.sending

-- ---- parts of the calls

-- the first mark was done, and was taken
abbrev pub TakesDone : List Mark → Bool → List Mark → Type 0
TakesDone old true new = old ≡ Done ∷ new
TakesDone old false new = (done_mark (slice_get old 0) ≡ false) × (new ≡ old)
