use Rattle.wl_number.proofs.Drawing.{draw_above, draw_enters}
use Rattle.wl_number.proofs.laws.a_draw_is_next.Goals as goal

pub returns-clause-enters : goal.returns-clause-enters
returns-clause-enters c = draw_enters

pub returns-clause-above : goal.returns-clause-above
returns-clause-above c = draw_above
