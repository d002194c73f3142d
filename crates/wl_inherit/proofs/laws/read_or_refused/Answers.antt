use Rattle.wl_inherit.proofs.Once.{is_read_or_refused}
use Rattle.wl_inherit.proofs.laws.read_or_refused.Goals as goal

pub returns : goal.returns
returns c = is_read_or_refused
