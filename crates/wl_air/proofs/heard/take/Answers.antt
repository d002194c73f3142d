use Rattle.std.proofs.Common.{◌∙◌}
use Rattle.wl_air.proofs.heard.take.Goals as goal

pub returns-clause-answer : goal.returns-clause-answer
returns-clause-answer c = c.again_in-again.ensures ∙ c.in_ok-outcome.ensures.answer
