-- What a step airs: a frame of the booking that a hand holds, or of one that was named.
use Rattle.std.specs.Prelude.{◌≡◌}
use Rattle.wl_elem.specs.declared.lane.EndId.{EndId}
use Rattle.wl_elem.specs.declared.lane.Lane.{Lane}
use Rattle.wl_number.specs.declared.numbers.Numbers.{Numbers}
use Rattle.wl_history.specs.declared.command.Command.{Command}
use Rattle.wl_history.specs.declared.command.Command.TheVariants as commands
use Rattle.wl_history.specs.declared.outcome.Outcome.{Outcome}
use Rattle.wl_history.specs.declared.outcome.Outcome.TheVariants as outcomes
use Rattle.wl_history.specs.declared.step.Step.{Step}

abbrev pub PutOf : Outcome → Lane → Numbers → Type 0
PutOf (outcomes.Put at m retry) lane n = (at ≡ lane) × (m ≡ n)
PutOf other lane n = ⊥

abbrev pub AgainOf : Lane → Outcome → Lane → Numbers → Type 0
AgainOf at (outcomes.PutAgain m retry) lane n = (at ≡ lane) × (m ≡ n)
AgainOf at other lane n = ⊥

abbrev pub AirsBy : EndId → Command → Outcome → Lane → Numbers → Type 0
AirsBy e (commands.Put end link) outcome lane n = (end ≡ e) × PutOf outcome lane n
AirsBy e (commands.Again end link at pos) outcome lane n = (end ≡ e) × AgainOf at outcome lane n
AirsBy e other outcome lane n = ⊥

-- the step airs a frame of this end, for these numbers of the lane
abbrev pub Airs : EndId → Step → Lane → Numbers → Type 0
Airs e step lane n = AirsBy e step.command step.outcome lane n
