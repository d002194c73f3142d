use Rattle.std.proofs.Common.{Ok}
use Rattle.wl_assoc.proofs.Bodies.{one_ask_reading}
use Rattle.wl_assoc.proofs.laws.ask_round_trip.Goals as goal

pub returns : goal.returns
returns c ask body reading of read = one_ask_reading c.read_once.ensures body reading (Ok ask) read of
