use Rattle.wl_top.proofs.OneRun.{PlayedOnce}
use Rattle.wl_top.proofs.OneEnding.{LinesOnce, decoded_once, checked_once, ran_once}
use Rattle.wl_top.proofs.laws.one_ending.Goals as goal

pub returns-clause-decode : goal.returns-clause-decode
returns-clause-decode c input e e' h h' =
    let lines_once : LinesOnce = record { refused = c.refused_once.ensures; shown_is_not_bad = c.shown_is_not_bad.ensures; judged = c.judged_once.ensures; judged_is_not_bad = c.judged_is_not_bad.ensures } in
    decoded_once lines_once input e e' h h'

pub returns-clause-check : goal.returns-clause-check
returns-clause-check c input e e' h h' =
    let lines_once : LinesOnce = record { refused = c.refused_once.ensures; shown_is_not_bad = c.shown_is_not_bad.ensures; judged = c.judged_once.ensures; judged_is_not_bad = c.judged_is_not_bad.ensures } in
    checked_once lines_once input e e' h h'

pub returns-clause-run : goal.returns-clause-run
returns-clause-run c text input e e' h h' =
    let plays_once : PlayedOnce = record { plays = c.played_once.ensures.plays; stops = c.played_once.ensures.stops; either = c.played_once.ensures.either } in
    ran_once c.read_once.ensures plays_once c.reported_once.ensures text input e e' h h'
