use Rattle.wl_history.specs.EndState.{IsEnd}
use Rattle.wl_end.specs.contracts.end.End.{the_view}
use Rattle.wl_end.proofs.Keeping.{turned_kept}
use Rattle.wl_end.proofs.end.End.turn.Goals as goal
use Rattle.wl_end.proofs.end.End.turn.Goals.{After-turn}

kept : (c : After-turn) → IsEnd (the_view (record c.self.inside { numbers = c.turn.new.self }))
kept c = turned_kept c.an_end_keeps.ensures.turn (the_view c.self.inside) c.turn.result c.turn.new.self c.self.invariant.sound c.turn.ensures.after c.turn.ensures.unchanged

pub invariant_of-self : goal.invariant_of-self
invariant_of-self c = record { sound = kept (goal.at.invariant_of-self c).After-turn; known = c.self.invariant.known }

pub returns-clause-sound : goal.returns-clause-sound
returns-clause-sound c = kept (goal.at.returns-clause-sound c).After-turn
