use Rattle.wl_top.proofs.Faults.{outcome_tells}
use Rattle.wl_top.proofs.laws.faults_told.Goals as goal

pub returns : goal.returns
returns c words source sink text outcome is = outcome_tells source sink words text outcome is
