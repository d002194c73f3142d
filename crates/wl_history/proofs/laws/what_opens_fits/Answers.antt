use Rattle.wl_history.proofs.Opening.{to_open_fits}
use Rattle.wl_history.proofs.laws.what_opens_fits.Goals as goal

pub returns : goal.returns
returns c = to_open_fits
