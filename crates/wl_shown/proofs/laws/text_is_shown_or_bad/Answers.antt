use Rattle.wl_shown.proofs.Total.{shown_or_bad}
use Rattle.wl_shown.proofs.laws.text_is_shown_or_bad.Goals as goal

pub returns : goal.returns
returns c = shown_or_bad c.answers_made.ensures
