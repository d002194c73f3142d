use Rattle.std.proofs.Common.{Ok}
use Rattle.wl_frame.proofs.Again.{one_reading}
use Rattle.wl_frame.proofs.laws.round_trip.Goals as goal

pub returns : goal.returns
returns c f octets reading of read = one_reading octets reading (Ok f) read of
