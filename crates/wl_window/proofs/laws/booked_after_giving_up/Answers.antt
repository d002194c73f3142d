use Rattle.wl_window.proofs.Booked.{giving_up_keeps}
use Rattle.wl_window.proofs.laws.booked_after_giving_up.Goals as goal

pub returns : goal.returns
returns c = giving_up_keeps
