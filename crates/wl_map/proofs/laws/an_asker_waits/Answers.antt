use Rattle.wl_map.specs.Ends.{accepts, replied}
use Rattle.wl_map.proofs.Keeping.{if_false, number_if_false, asking_keeps, closing_keeps, refused_keeps, denies}
use Rattle.wl_map.proofs.laws.an_asker_waits.Goals as goal

pub returns-clause-asking : goal.returns-clause-asking
returns-clause-asking c = asking_keeps

pub returns-clause-giving_up : goal.returns-clause-giving_up
returns-clause-giving_up c = closing_keeps

pub returns-clause-untaken : goal.returns-clause-untaken
returns-clause-untaken c s token status untaken = if_false _ (replied s.asked s status) s untaken

pub returns-clause-refused : goal.returns-clause-refused
returns-clause-refused c = refused_keeps

pub returns-clause-denying : goal.returns-clause-denying
returns-clause-denying c s ask is = number_if_false (accepts s ask) 0 133 (denies s ask is)

pub returns-clause-denied : goal.returns-clause-denied
returns-clause-denied c s ask is = if_false (accepts s ask) _ s (denies s ask is)
