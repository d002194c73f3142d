use Rattle.wl_history.proofs.Scripts.{played_once, stopped_once, played_or_stopped}
use Rattle.wl_history.proofs.script_laws.played_once.Goals as goal

pub returns-clause-plays : goal.returns-clause-plays
returns-clause-plays c text start items a b plays plays' = played_once c.one_answer.ensures text start items a b plays plays'

pub returns-clause-stops : goal.returns-clause-stops
returns-clause-stops c text start items a b opened other stops stops' = stopped_once c.one_answer.ensures text start items a b opened other stops stops'

pub returns-clause-either : goal.returns-clause-either
returns-clause-either c text start items a b opened plays stops = played_or_stopped c.one_answer.ensures text start items a b opened plays stops
