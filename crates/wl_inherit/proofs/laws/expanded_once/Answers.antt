use Rattle.wl_inherit.proofs.Expansion.{one_expansion}
use Rattle.wl_inherit.proofs.laws.expanded_once.Goals as goal

pub returns : goal.returns
returns c = one_expansion
