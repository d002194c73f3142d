use Rattle.std.proofs.Common.{length, ap, ◌∙◌}
use Rattle.std.proofs.lemmas.List.{length-reverse}
use Rattle.wl_scene.proofs.Reported.{report_of}
use Rattle.wl_scene.proofs.account.report_text.Goals as goal

pub returns : goal.returns
returns c =
    report_of c.totals_are_reported.ensures c.words_are_told.ensures c.args.world.now c.in_ok-ap.ap c.in_ok-sta.sta _ c.report_line.result
    (record { state = c.end_of.result.now; is_end = c.end_of.ensures.value; sound = c.end_of.ensures.sound; totals = c.in_ok-ap.ensures })
    (record { state = c.end_of-2.result.now; is_end = c.end_of-2.ensures.value; sound = c.end_of-2.ensures.sound; totals = c.in_ok-sta.ensures })
    (ap length c.as_slice.ensures ∙ length-reverse c.args.journal.now.steps ∙ ap length c.requires.steps) c.report_line.ensures
