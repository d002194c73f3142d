use Rattle.std.proofs.Common.{Ok}
use Rattle.wl_elem.proofs.Lists.{one_reading}
use Rattle.wl_elem.proofs.laws.read_what_was_written.Goals as goal

pub returns : goal.returns
returns c list octets reading spelled read = one_reading octets reading (Ok list) read spelled
