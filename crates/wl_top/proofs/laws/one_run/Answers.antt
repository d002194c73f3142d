use Rattle.wl_top.proofs.OneRun.{PlayedOnce, one_ran, refused_ran}
use Rattle.wl_top.proofs.laws.one_run.Goals as goal

pub returns-clause-same : goal.returns-clause-same
returns-clause-same c source text told e e' j j' out out' is r r' =
    let plays_once : PlayedOnce = record { plays = c.played_once.ensures.plays; stops = c.played_once.ensures.stops; either = c.played_once.ensures.either } in
    one_ran c.read_once.ensures plays_once c.reported_once.ensures text told source is e e' j j' out out' r r'

pub returns-clause-refused : goal.returns-clause-refused
returns-clause-refused c source text told input place e j out is r is_input refused = refused_ran c.read_once.ensures source text told input place e j out is r is_input refused
