use Rattle.std.proofs.Common.{ℕ, List, subst}
use Rattle.std.specs.List.{Contains}
use Rattle.wl_number.specs.declared.numbers.Numbers.{Numbers}
use Rattle.wl_number.specs.NumberObject.{InRange}
use Rattle.wl_number.specs.OrderRule.{list_at}
use Rattle.wl_history.specs.EndState.{EndState}
use Rattle.wl_end.proofs.end.End.test.Goals as goal

abbrev AreInRange : List (List Numbers) → Type 0
AreInRange lanes = (place : ℕ) (n : Numbers) → Contains (list_at lanes place) n → InRange n

pub returns-clause-in_range : goal.returns-clause-in_range
returns-clause-in_range c = subst (λ (s : EndState). AreInRange s.booked) c.self.view_is c.at.ensures.is_book.in_range
