use Rattle.std.proofs.Common.{subst, ap, ◌∙◌}
use Rattle.std.specs.Prelude.{IfSome}
use Rattle.std.specs.List.{Contains}
use Rattle.wl_number.specs.OrderRule.{list_of}
use Rattle.wl_history.specs.Answers.{booked_at}
use Rattle.wl_history.specs.EndState.{EndState}
use Rattle.wl_end.specs.contracts.end.End.{the_view}
use Rattle.wl_end.proofs.Finding.{found_at, found_there}
use Rattle.wl_end.proofs.end.End.booked_at.Goals as goal

pub returns-clause-value : goal.returns-clause-value
returns-clause-value c =
    found_at c.a_booking_is_found.ensures (the_view c.self.inside).booked c.args.lane.now c.args.pos c.at.result c.at.ensures.is_book.rule c.at.ensures.some c.at.ensures.none
    ∙ ap (λ (s : EndState). booked_at s c.args.lane.now c.args.pos) c.self.view_is

pub returns-clause-there : goal.returns-clause-there
returns-clause-there c =
    subst (λ (s : EndState). IfSome c.at.result (Contains (list_of s.booked c.args.lane.now))) c.self.view_is (found_there (the_view c.self.inside).booked c.args.lane.now c.args.pos c.at.result c.at.ensures.some)
