use Rattle.wl_inherit.proofs.Once.{is_read_back}
use Rattle.wl_inherit.proofs.laws.round_trip.Goals as goal

pub returns : goal.returns
returns c = is_read_back
