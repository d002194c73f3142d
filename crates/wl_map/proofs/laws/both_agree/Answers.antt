use Rattle.wl_map.proofs.Keeping.{both_agree}
use Rattle.wl_map.proofs.laws.both_agree.Goals as goal

pub returns : goal.returns
returns c = both_agree
