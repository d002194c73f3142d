use Rattle.wl_shown.proofs.Total.{judged_or_bad}
use Rattle.wl_shown.proofs.laws.text_is_judged_or_bad.Goals as goal

pub returns : goal.returns
returns c = judged_or_bad c.answers_made.ensures
