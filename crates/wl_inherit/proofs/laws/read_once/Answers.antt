use Rattle.wl_inherit.proofs.Once.{one_reading}
use Rattle.wl_inherit.proofs.laws.read_once.Goals as goal

pub returns : goal.returns
returns c = one_reading
