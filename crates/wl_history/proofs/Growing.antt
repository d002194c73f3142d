-- Bookings with their bodies: they stay what they are while queues and bookings grow.
use Rattle.std.proofs.Common.{◌≡◌, ℕ, zero, suc, ◌<◌, Bool, true, false, List, [], ◌∷◌, ◌++◌, length, Option, Some, None, refl, sym, ap, subst, ◌∙◌, arith, inl, inr, length-append}
use Rattle.std.specs.Prelude.{if◌then◌else◌, ◌==◌, ◌&&◌}
use Rattle.std.specs.List.{Contains}
use Rattle.std.proofs.lemmas.List.{append-nil}
use Rattle.std.proofs.lemmas.List.Elements.{Contains-append_cases}
use Rattle.wl_elem.specs.declared.lane.Lane.{Lane}
use Rattle.wl_number.specs.declared.numbers.Numbers.{Numbers}
use Rattle.wl_number.specs.OrderRule.{list_at, with_booking}
use Rattle.wl_elem.specs.declared.lane.EndId.{EndId}
use Rattle.wl_elem.specs.declared.lane.Lane.TheVariants as lanes
use Rattle.wl_elem.specs.Lanes.{lane_index, at_place, same_end, peer_of, IsLane}
use Rattle.wl_message.specs.declared.message.Message.{Message}
use Rattle.wl_message.specs.Message.{message_octets, message_of}
use Rattle.wl_history.specs.declared.command.Command.{Command}
use Rattle.wl_history.specs.declared.command.Command.TheVariants as commands
use Rattle.wl_history.specs.declared.outcome.Outcome.{Outcome}
use Rattle.wl_history.specs.declared.outcome.Outcome.TheVariants as outcomes
use Rattle.wl_history.specs.declared.start.Start.{Start}
use Rattle.wl_history.specs.declared.step.Step.{Step}
use Rattle.wl_history.specs.Machines.{installed, switched, map_asked, map_torn, given, acted}
use Rattle.wl_history.specs.EndState.{management}
use Rattle.wl_history.specs.Words.{body_at, bodies_with, Terms, told_on, terms_heard, terms_after, terms, msdus_after, msdus, queued, Airing}
use Rattle.wl_history.proofs.Lanes.{member_cases, no_member}
use Rattle.wl_history.proofs.Booking.{still_booked}

-- the numbers are booked on the lane, and the body is the one queued at their position
pub record IsBooking (queue : ℕ → List (List ℕ)) (lanes : List (List Numbers)) (l : ℕ) (n : Numbers) (body : List ℕ) : Type 0 where
  pub booked : Contains (list_at lanes l) n
  pub within : n.pos < length (queue l)
  pub same : body ≡ body_at (queue l) n.pos

-- a place where something is booked is one of the lists
pub contains_within : (lists : List (List Numbers)) (place : ℕ) (n : Numbers) → Contains (list_at lists place) n → place < length lists
contains_within [] place n (i, lt, is) = absurd (omega (arith, lt))
contains_within (list ∷ lists) zero n h = omega arith
contains_within (list ∷ lists) (suc place) n h = let lt : place < length lists = contains_within lists place n h in omega (arith, lt)

-- ---- queues

-- a queue is the old one, with more bodies or none
pub record Longer (old new : List (List ℕ)) : Type 0 where
  pub more : List (List ℕ)
  pub new_is : new ≡ old ++ more

as_long : (old : List (List ℕ)) → Longer old old
as_long old = record { more = []; new_is = sym (append-nil old) }

one_longer : (old : List (List ℕ)) (body : List ℕ) → Longer old (old ++ body ∷ [])
one_longer old body = record { more = body ∷ []; new_is = refl }

body_before : (xs more : List (List ℕ)) (pos : ℕ) → pos < length xs → body_at (xs ++ more) pos ≡ body_at xs pos
body_before [] more pos lt = absurd (omega arith)
body_before (x ∷ xs) more zero lt = refl
body_before (x ∷ xs) more (suc pos) lt = body_before xs more pos (omega arith)

pub booking_longer : (queue queue' : ℕ → List (List ℕ)) → ((l : ℕ) → Longer (queue l) (queue' l)) → (lanes : List (List Numbers)) (l : ℕ) (n : Numbers) (body : List ℕ) → IsBooking queue lanes l n body → IsBooking queue' lanes l n body
booking_longer queue queue' longer lanes l n body b =
    let new_is = (longer l).new_is in
    let more = (longer l).more in
    record {
      booked = b.booked;
      within = omega (arith, b.within, ap (λ (q : List (List ℕ)). length q) new_is, length-append (queue l) more);
      same = b.same ∙ sym (ap (λ (q : List (List ℕ)). body_at q n.pos) new_is ∙ body_before (queue l) more n.pos b.within);
    }

-- what machines make
made_longer : (message : Option Message) (bodies : List (List ℕ)) → Longer bodies (bodies_with message bodies)
made_longer None bodies = as_long bodies
made_longer (Some message) bodies = one_longer bodies (message_octets message)

told_longer : (lane : Lane) (body : List ℕ) (old : Terms) → Longer old.bodies (told_on lane body old).bodies
told_longer (lanes.Tid tid) body old = as_long old.bodies
told_longer lanes.Management body old = made_longer (acted (message_of body) old.setup).message old.bodies

heard_longer : (peers : List (List ℕ)) (o : Outcome) (old : Terms) → Longer old.bodies (terms_heard peers o old).bodies
heard_longer peers (outcomes.Stored lane number n up) old = told_longer lane (body_at peers n.pos) old
heard_longer peers other old = as_long old.bodies

if_longer : (b : Bool) (old new : Terms) → Longer old.bodies new.bodies → Longer old.bodies (if b then new else old).bodies
if_longer true old new h = h
if_longer false old new h = as_long old.bodies

terms_longer : (e : EndId) (peers : List (List ℕ)) (command : Command) (o : Outcome) (old : Terms) → Longer old.bodies (terms_after e peers command o old).bodies
terms_longer e peers (commands.Install end) o old = if_longer (same_end end e) old _ (made_longer (installed o old.setup).message old.bodies)
terms_longer e peers (commands.Power end link on) o old = if_longer (same_end end e) old _ (made_longer (switched link on old.setup).message old.bodies)
terms_longer e peers (commands.MapAsk end entries) o old = if_longer (same_end end e) old _ (made_longer (map_asked entries o old.setup).message old.bodies)
terms_longer e peers (commands.MapTeardown end) o old = if_longer (same_end end e) old _ (made_longer (map_torn o old.setup).message old.bodies)
terms_longer e peers (commands.GiveUp end what) o old = if_longer (same_end end e) old _ (made_longer (given what o old.setup).message old.bodies)
terms_longer e peers (commands.Deliver end link nth) o old = if_longer (same_end end e) old _ (heard_longer peers o old)
terms_longer e peers (commands.Alter end link nth number) o old = if_longer (same_end end e) old _ (heard_longer peers o old)
terms_longer e peers (commands.Forge end link lane key pn number body) o old = if_longer (same_end end e) old _ (heard_longer peers o old)
terms_longer e peers (commands.Inject end link octets) o old = if_longer (same_end end e) old _ (heard_longer peers o old)
terms_longer e peers other o old = as_long old.bodies

queue_longer : (b : Bool) (old : List (List ℕ)) (body : List ℕ) → Longer old (if b then old ++ body ∷ [] else old)
queue_longer true old body = one_longer old body
queue_longer false old body = as_long old

msdus_longer : (e : EndId) (l : ℕ) (command : Command) (old : List (List ℕ)) → Longer old (msdus_after e l command old)
msdus_longer e l (commands.Queue end tid body) old = queue_longer (same_end end e && at_place (lanes.Tid tid) l) old body
msdus_longer e l other old = as_long old

either_longer : (b : Bool) (p q r s : List (List ℕ)) → Longer p q → Longer r s → Longer (if b then p else r) (if b then q else s)
either_longer true p q r s x y = x
either_longer false p q r s x y = y

-- each step leaves each queue as it was, or longer
pub queued_longer : (start : Start) (e : EndId) (l : ℕ) (step : Step) (before : List Step) → Longer (queued start e l before) (queued start e l (step ∷ before))
queued_longer start e l step before =
    either_longer (l == management) (terms start e before).bodies (terms start e (step ∷ before)).bodies (msdus e l before) (msdus e l (step ∷ before))
    (terms_longer e (terms start (peer_of e) before).bodies step.command step.outcome (terms start e before)) (msdus_longer e l step.command (msdus e l before))

-- ---- bookings

pub booking_booked : (queue : ℕ → List (List ℕ)) (lanes : List (List Numbers)) (own : Lane) (k : Numbers) → lane_index own < length lanes → (l : ℕ) (n : Numbers) (body : List ℕ)
    → IsBooking queue lanes l n body → IsBooking queue (with_booking lanes own k) l n body
booking_booked queue lanes own k lt l n body b = record {
  booked = still_booked lanes own l k n lt b.booked;
  within = b.within;
  same = b.same;
}

-- ---- what was aired

-- each frame aired is of a booking, with its body
pub record AiredWell (queue : ℕ → List (List ℕ)) (lanes : List (List Numbers)) (a : Airing) : Type 0 where
  pub booking : IsBooking queue lanes (lane_index a.lane) a.numbers a.body
  pub of_lane : IsLane a.lane

abbrev pub Aired : (ℕ → List (List ℕ)) → List (List Numbers) → List Airing → Type 0
Aired queue lanes airings = (a : Airing) → Contains airings a → AiredWell queue lanes a

pub aired_still : (queue queue' : ℕ → List (List ℕ)) (lanes lanes' : List (List Numbers)) (airings : List Airing) → ((l : ℕ) (n : Numbers) (body : List ℕ) → IsBooking queue lanes l n body → IsBooking queue' lanes' l n body)
    → Aired queue lanes airings → Aired queue' lanes' airings
aired_still queue queue' lanes lanes' airings f h a there = record { booking = f (lane_index a.lane) a.numbers a.body (h a there).booking; of_lane = (h a there).of_lane }

pub aired_more : (queue : ℕ → List (List ℕ)) (lanes : List (List Numbers)) (airings : List Airing) (new : Airing) → AiredWell queue lanes new → Aired queue lanes airings → Aired queue lanes (airings ++ new ∷ [])
aired_more queue lanes airings new good old a is =
    elim (Contains-append_cases airings (new ∷ []) a is) [
      | inl before ↦ old a before
      | inr last ↦ elim (member_cases new [] a last) [
        | inl same ↦ subst (λ (x : Airing). AiredWell queue lanes x) (sym same) good
        | inr none ↦ absurd (no_member a none)
      ]
    ]
