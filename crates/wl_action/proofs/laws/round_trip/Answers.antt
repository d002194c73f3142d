use Rattle.std.proofs.Common.{Ok}
use Rattle.wl_action.proofs.laws.round_trip.Goals as goal

pub returns : goal.returns
returns c value body reading of read = c.read_once.ensures body reading (Ok value) read of
