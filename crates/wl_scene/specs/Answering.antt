-- What `read_scenario` answers: a scenario, or the place where the text is refused; want of memory
-- says nothing of the text.
use Rattle.std.specs.Prelude.{◌≡◌, ℕ, List, Option, Some, None, Result, Ok, Err}
use Rattle.wl_scene.specs.declared.fault.SceneFault.{SceneFault}
use Rattle.wl_scene.specs.declared.fault.SceneFault.TheVariants.{Refused, Memory}
use Rattle.wl_scene.specs.declared.fault.Stop.{Stop}
use Rattle.wl_scene.specs.declared.fault.Stop.TheVariants.{Wrong, NoMemory}
use Rattle.wl_scene.specs.Scene.{IsNoJson}

-- what was answered is such a reading
abbrev pub Answers : {V : Type 0} → Result V SceneFault → (Result V ℕ → Type 0) → Type 0
Answers (Ok value) IsReading = IsReading (Ok value)
Answers (Err (Refused place)) IsReading = IsReading (Err place)
Answers (Err Memory) IsReading = Unit {0}

-- nothing but this reading was answered
abbrev pub AnswersOnly : {V : Type 0} → Result V SceneFault → Result V ℕ → Type 0
AnswersOnly (Ok value) reading = reading ≡ Ok value
AnswersOnly (Err (Refused place)) reading = reading ≡ Err place
AnswersOnly (Err Memory) reading = Unit {0}

-- a command that was read is this one, or it is none
abbrev pub Gives : {V : Type 0} → Result V Stop → Option V → Type 0
Gives (Ok value) command = command ≡ Some value
Gives (Err Wrong) command = command ≡ None
Gives (Err NoMemory) command = Unit {0}

-- why a text has no value: it is no JSON
abbrev pub IsUnread : List ℕ → SceneFault → Type 0
IsUnread text (Refused place) = IsNoJson text × (place ≡ 0)
IsUnread text Memory = Unit {0}
