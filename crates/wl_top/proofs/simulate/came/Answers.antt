use Rattle.wl_top.proofs.simulate.came.Goals as goal

pub returns-in-Ok-clause-simulated : goal.returns-in-Ok-clause-simulated
returns-in-Ok-clause-simulated c text scene input read start played stands = c.told.ensures.ran text scene input read start (rw c.in-Ok.is at played) stands

pub returns-in-Err-clause-simulated : goal.returns-in-Err-clause-simulated
returns-in-Err-clause-simulated c text scene input read start played stands = c.broken_off.ensures.simulated text scene input read start (rw c.in-Err.is at played) stands
