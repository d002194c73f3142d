use Rattle.wl_inherit.proofs.Regaining.{is_regained}
use Rattle.wl_inherit.proofs.laws.shrunk_expands_to_full.Goals as goal

pub returns : goal.returns
returns c = is_regained
