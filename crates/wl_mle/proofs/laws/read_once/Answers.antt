use Rattle.wl_mle.proofs.Once.{one_reading}
use Rattle.wl_mle.proofs.laws.read_once.Goals as goal

pub returns : goal.returns
returns c = one_reading (record { list = c.items_read_once.ensures; not_both = c.items_not_both.ensures; refusal = c.cut_off_once.ensures })
