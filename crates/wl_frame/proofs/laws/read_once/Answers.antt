use Rattle.wl_frame.proofs.Again.{one_reading}
use Rattle.wl_frame.proofs.laws.read_once.Goals as goal

pub returns : goal.returns
returns c = one_reading
