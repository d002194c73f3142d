use Rattle.wl_mle.proofs.Once.{is_read_or_refused}
use Rattle.wl_mle.proofs.laws.read_or_refused.Goals as goal

pub returns : goal.returns
returns c = is_read_or_refused c.items_cut_or_refused.ensures c.items_are_octets.ensures
