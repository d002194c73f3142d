use Rattle.std.proofs.Common.{sym, ◌∙◌}
use Rattle.wl_frame.proofs.laws.spelled_once.Goals as goal

pub returns : goal.returns
returns c f octets other a b = a.text ∙ sym b.text
