use Rattle.wl_inherit.proofs.Expansion.{is_expanded_or_refused}
use Rattle.wl_inherit.proofs.laws.expanded_or_refused.Goals as goal

pub returns : goal.returns
returns c = is_expanded_or_refused
