-- How far a script has come, and the room and the limits of what is left of it.
use Rattle.std.proofs.Common.{◌≡◌, ℕ, ◌+◌, ◌*◌, ◌<◌, ◌≤◌, Bool, List, [], ◌∷◌, length, Option, None, Some, refl, sym, ap, subst, ◌∙◌, arith, eq-eqb}
use Rattle.std.specs.Prelude.{IfSome}
use Rattle.std.specs.List.{AllByRecursion}
use Rattle.wl_frame.specs.Sealing.{Sealing}
use Rattle.wl_history.specs.declared.command.Command.{Command}
use Rattle.wl_history.specs.declared.outcome.Outcome.{Outcome}
use Rattle.wl_history.specs.declared.outcome.Outcome.TheVariants as outcomes
use Rattle.wl_history.specs.declared.script.Item.{Item}
use Rattle.wl_history.specs.declared.script.Plain.{Plain}
use Rattle.wl_history.specs.declared.script.Plain.TheVariants.{Do, Send}
use Rattle.wl_history.specs.declared.script.Stage.{Stage}
use Rattle.wl_history.specs.declared.script.Stage.TheVariants.{Reserving, Booking, Putting}
use Rattle.wl_history.specs.declared.start.Start.{Start}
use Rattle.wl_history.specs.declared.step.Step.{Step}
use Rattle.wl_history.specs.Legal.{Fits, step_limit}
use Rattle.wl_history.specs.Scripts.{Cursor, Performed, Moves, step_of, asks, asks_first, beginning, command_at, goes_on, moved, moved_on, plains}
use Rattle.wl_air.specs.Playing.{PlainFits}
use Rattle.wl_air.specs.World.{WorldState, Stands}

-- ---- what was performed

performed_none : (thread : ℕ) (script : List Item) (before : List Step) → Performed thread script before before (beginning script)
performed_none thread script before = record { made = []; after_is = refl; own = tt; follows = refl }

performed_more : (thread : ℕ) (script : List Item) (before now after : List Step) (at : Cursor) (command : Command) (o : Outcome) → Performed thread script before now at → asks at ≡ Some command → after ≡ step_of thread command o ∷ now
    → Performed thread script before after (moved o at)
performed_more thread script before now after at command o p asked is = record {
  made = step_of thread command o ∷ p.made;
  after_is = is ∙ ap (λ (l : List Step). step_of thread command o ∷ l) p.after_is;
  own = (refl, p.own);
  follows = (at, p.follows, subst (λ (mine : Bool). Moves mine at (step_of thread command o) (moved o at)) (sym (eq-eqb thread thread refl)) (asked, refl));
}

-- ---- the steps that are left at most

abbrev steps_of : Stage → ℕ
steps_of Reserving = 3
steps_of Booking = 2
steps_of Putting = 1

abbrev most_of : Stage → List Plain → ℕ
most_of stage [] = 0
most_of stage (plain ∷ left) = steps_of stage + 3 * length left

pub most : Cursor → ℕ
most at = most_of at.stage at.left

most_whole : (left : List Plain) → most_of Reserving left ≡ 3 * length left
most_whole [] = omega arith
most_whole (plain ∷ left) = omega arith

some_step : (stage : Stage) → 1 ≤ steps_of stage
some_step Reserving = omega arith
some_step Booking = omega arith
some_step Putting = omega arith

-- a send goes on with fewer
fewer : (plain : Plain) (stage : Stage) (o : Outcome) → IfSome (goes_on plain stage o) (λ next. steps_of next < steps_of stage)
fewer (Do command) stage o = tt
fewer (Send end link lane) Reserving outcomes.Reserved = omega arith
fewer (Send end link lane) Booking (outcomes.Booked lane' n) = omega arith
fewer (Send end link lane) stage o = tt

most_falls : (next : Option Stage) (stage : Stage) (plain : Plain) (left : List Plain) → IfSome next (λ later. steps_of later < steps_of stage) → most (moved_on next plain left) < most_of stage (plain ∷ left)
unfolding most
most_falls (Some later) stage plain left less = omega arith
most_falls None stage plain left less = omega (arith, most_whole left, some_step stage)

-- ---- what holds of the rest

fits_kept : (start : Start) (next : Option Stage) (plain : Plain) (left : List Plain) → AllByRecursion (PlainFits start) (plain ∷ left) → AllByRecursion (PlainFits start) (moved_on next plain left).left
fits_kept start (Some later) plain left fit = fit
fits_kept start None plain left fit = fit.1

-- what the next step of a cursor needs, and what it leaves
record Steps (start : Start) (at : Cursor) (command : Command) : Type 0 where
  pub fits : Fits start command
  pub some : 1 ≤ most at
  pub falls : (o : Outcome) → most (moved o at) < most at
  pub fit : (o : Outcome) → AllByRecursion (PlainFits start) (moved o at).left

steps : (start : Start) (stage : Stage) (left : List Plain) (command : Command) → asks_first stage left ≡ Some command → AllByRecursion (PlainFits start) left → Steps start (record { stage = stage; left = left }) command
unfolding most
steps start stage [] command asked fit = absurd (cc asked)
steps start stage (plain ∷ left) command asked fit =
    let is : command_at stage plain ≡ command = cc asked in
    record {
      fits = subst (Fits start) is (fit.0 stage);
      some = omega (arith, some_step stage);
      falls = λ o. most_falls (goes_on plain stage o) stage plain left (fewer plain stage o);
      fit = λ o. fits_kept start (goes_on plain stage o) plain left fit;
    }

-- ---- the loop

-- The world has come from the old one to this cursor of the script.
pub record Goes (text : Sealing) (old now : WorldState) (script : List Item) (at : Cursor) : Type 0 where
  pub start_is : now.start ≡ old.start
  pub stands : Stands text old → Stands text now
  pub performed : Performed 0 script old.steps now.steps at
  pub room : length now.steps + most at ≤ step_limit
  pub fit : AllByRecursion (PlainFits old.start) at.left

pub goes_first : (text : Sealing) (old : WorldState) (script : List Item) (at : Cursor) → at ≡ beginning script → length old.steps + 3 * length (plains script) ≤ step_limit → AllByRecursion (PlainFits old.start) (plains script) → Goes text old old script at
unfolding most
goes_first text old script at is room fit = subst (Goes text old old script) (sym is) (record {
  start_is = refl;
  stands = λ h. h;
  performed = performed_none 0 script old.steps;
  room = omega (arith, most_whole (plains script));
  fit = fit;
})

module _ (text : Sealing) (old now : WorldState) (script : List Item) (at : Cursor) (command : Command) (asked : asks at ≡ Some command) (g : Goes text old now script at) where
  next : Steps old.start at command
  next = steps old.start at.stage at.left command asked g.fit

  pub goes_room : length now.steps < step_limit
  goes_room = omega (arith, next.some, g.room)

  pub goes_fit : Fits now.start command
  goes_fit = subst (λ (x : Start). Fits x command) (sym g.start_is) next.fits

  pub goes_next : (later : WorldState) (o : Outcome) (to : Cursor) → to ≡ moved o at → later.start ≡ now.start → later.steps ≡ step_of 0 command o ∷ now.steps → (Stands text now → Stands text later) → Goes text old later script to
  goes_next later o to to_is start_is made stands = subst (Goes text old later script) (sym to_is) (record {
    start_is = start_is ∙ g.start_is;
    stands = λ h. stands (g.stands h);
    performed = performed_more 0 script old.steps now.steps later.steps at command o g.performed asked made;
    room = omega (arith, g.room, next.falls o, ap (λ (l : List Step). length l) made);
    fit = next.fit o;
  })

  pub goes_down : (o : Outcome) (to : Cursor) → to ≡ moved o at → most to < most at
  goes_down o to to_is = subst (λ (c : Cursor). most c < most at) (sym to_is) (next.falls o)
