-- Scripts: what a thread asks for next, and where its script stands after the answer. A history follows a
-- thread's script where its own steps do, whatever steps of other threads stand between them.
use Rattle.std.specs.Prelude.{◌≡◌, ℕ, zero, suc, ◌==◌, Bool, true, false, List, [], ◌∷◌, ◌++◌, Option, Some, None}
use Rattle.std.specs.List.{AllByRecursion}
use Rattle.wl_frame.specs.Sealing.{Sealing}
use Rattle.wl_history.specs.declared.command.Command.{Command}
use Rattle.wl_history.specs.declared.command.Command.TheVariants as commands
use Rattle.wl_history.specs.declared.opened.Opened.{Opened}
use Rattle.wl_history.specs.declared.outcome.Outcome.{Outcome}
use Rattle.wl_history.specs.declared.outcome.Outcome.TheVariants as outcomes
use Rattle.wl_history.specs.declared.script.Item.{Item}
use Rattle.wl_history.specs.declared.script.Item.TheVariants.{Once, Loop}
use Rattle.wl_history.specs.declared.script.Plain.{Plain}
use Rattle.wl_history.specs.declared.script.Plain.TheVariants.{Do, Send}
use Rattle.wl_history.specs.declared.script.Stage.{Stage}
use Rattle.wl_history.specs.declared.script.Stage.TheVariants.{Reserving, Booking, Putting}
use Rattle.wl_history.specs.declared.start.Start.{Start}
use Rattle.wl_history.specs.declared.step.Step.{Step}
use Rattle.wl_history.specs.AirState.{state_of}
use Rattle.wl_history.specs.Legal.{Legal, Forges}

-- ---- steps

abbrev pub step_of : ℕ → Command → Outcome → Step
step_of thread command outcome = record { thread = thread; command = command; outcome = outcome }

-- who asked for what
pub record Asked : Type 0 where
  pub thread : ℕ
  pub command : Command

abbrev pub asked : List Step → List Asked
asked [] = []
asked (step ∷ before) = record { thread = step.thread; command = step.command } ∷ asked before

-- ---- what a script asks for, in order, its loops expanded

-- how often an item is done, and what
abbrev pub times_of : Item → ℕ
times_of (Once plain) = 1
times_of (Loop times body) = times

abbrev pub body_of : Item → List Plain
body_of (Once plain) = plain ∷ []
body_of (Loop times body) = body

abbrev pub repeated : ℕ → List Plain → List Plain
repeated zero body = []
repeated (suc times) body = body ++ repeated times body

abbrev pub plains : List Item → List Plain
plains [] = []
plains (item ∷ items) = repeated (times_of item) (body_of item) ++ plains items

-- ---- cursors

-- what is left of a script, and the stage of the first thing left
pub record Cursor : Type 0 where
  pub stage : Stage
  pub left : List Plain

abbrev pub cursor_at : Stage → List Plain → Cursor
cursor_at stage left = record { stage = stage; left = left }

abbrev pub beginning : List Item → Cursor
beginning items = cursor_at Reserving (plains items)

-- a command is asked for alone; a send for a reserve, a booking and a put
abbrev pub command_at : Stage → Plain → Command
command_at stage (Do command) = command
command_at Reserving (Send end link lane) = commands.Reserve end lane
command_at Booking (Send end link lane) = commands.Book end
command_at Putting (Send end link lane) = commands.Put end link

abbrev pub asks_first : Stage → List Plain → Option Command
asks_first stage [] = None
asks_first stage (plain ∷ left) = Some (command_at stage plain)

-- what is asked for next
abbrev pub asks : Cursor → Option Command
asks cursor = asks_first cursor.stage cursor.left

abbrev pub stage_behind : Stage → Outcome → Option Stage
stage_behind Reserving outcomes.Reserved = Some Booking
stage_behind Booking (outcomes.Booked lane n) = Some Putting
stage_behind stage outcome = None

-- the stage at which a send goes on behind this answer, none where it is over
abbrev pub goes_on : Plain → Stage → Outcome → Option Stage
goes_on (Do command) stage outcome = None
goes_on (Send end link lane) stage outcome = stage_behind stage outcome

abbrev pub moved_on : Option Stage → Plain → List Plain → Cursor
moved_on (Some stage) plain left = cursor_at stage (plain ∷ left)
moved_on None plain left = cursor_at Reserving left

abbrev pub moved_first : Outcome → Stage → List Plain → Cursor
moved_first outcome stage [] = cursor_at stage []
moved_first outcome stage (plain ∷ left) = moved_on (goes_on plain stage outcome) plain left

-- the cursor behind the answer to what it asks for
abbrev pub moved : Outcome → Cursor → Cursor
moved outcome cursor = moved_first outcome cursor.stage cursor.left

-- ---- histories that follow a script

-- a thread's own step is what its cursor asks for, and moves it by its answer; any other leaves it
abbrev pub Moves : Bool → Cursor → Step → Cursor → Type 0
Moves true at step to = (asks at ≡ Some step.command) × (to ≡ moved step.outcome at)
Moves false at step to = to ≡ at

-- These steps take the thread's cursor from there to here.
abbrev pub Follows : ℕ → Cursor → List Step → Cursor → Type 0
Follows thread from [] to = to ≡ from
Follows thread from (step ∷ before) to = (at : Cursor) × Follows thread from before at × Moves (step.thread == thread) at step to

-- Behind the steps before, the thread alone made these, by its script from the beginning.
pub record Performed (thread : ℕ) (script : List Item) (before after : List Step) (to : Cursor) : Type 0 where
  pub made : List Step
  pub after_is : after ≡ made ++ before
  pub own : AllByRecursion (λ step. step.thread ≡ thread) made
  pub follows : Follows thread (beginning script) made to

-- Thread 0 alone has come so far with this script.
pub record Comes (text : Sealing) (start : Start) (items : List Item) (steps : List Step) (to : Cursor) : Type 0 where
  pub legal : Legal text start steps
  pub performed : Performed 0 items [] steps to

-- The script leaves these steps.
abbrev pub Plays : Sealing → Start → List Item → List Step → Type 0
Plays text start items steps = (to : Cursor) × Comes text start items steps to × (asks to ≡ None)

-- The script leaves these steps, where the next command is forged.
abbrev pub Stops : Sealing → Start → List Item → List Step → Opened → Type 0
Stops text start items steps opened = (to : Cursor) × (command : Command) × Comes text start items steps to × (asks to ≡ Some command) × Forges text command (state_of text start steps) opened

-- The script leaves these steps on its way, where more is asked for.
abbrev pub Reaches : Sealing → Start → List Item → List Step → Type 0
Reaches text start items steps = (to : Cursor) × (command : Command) × Comes text start items steps to × (asks to ≡ Some command)
