use Rattle.std.proofs.Common.{Ok}
use Rattle.wl_assoc.proofs.Bodies.{one_reply_reading}
use Rattle.wl_assoc.proofs.laws.reply_round_trip.Goals as goal

pub returns : goal.returns
returns c reply body reading of read = one_reply_reading c.read_once.ensures body reading (Ok reply) read of
