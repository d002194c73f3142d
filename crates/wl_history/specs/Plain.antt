-- Answers that carry no list, and room for those that do.
use Rattle.std.specs.Prelude.{ℕ, ◌≤◌, length}
use Rattle.wl_history.specs.declared.outcome.Outcome.{Outcome}
use Rattle.wl_history.specs.declared.outcome.Outcome.TheVariants as outcomes

abbrev pub IsPlain : Outcome → Type 0
IsPlain (outcomes.Stored lane number n up) = ⊥
IsPlain (outcomes.Acked start stored) = ⊥
IsPlain (outcomes.Moved lane start up) = ⊥
IsPlain other = Unit {0}

-- room for so many positions is room for this answer
abbrev pub FitsIn : ℕ → Outcome → Type 0
FitsIn room (outcomes.Stored lane number n up) = length up ≤ room
FitsIn room (outcomes.Moved lane start up) = length up ≤ room
FitsIn room (outcomes.Acked start stored) = ⊥
FitsIn room other = Unit {0}
