use Rattle.wl_top.proofs.Simulations.{whole_of}
use Rattle.wl_top.proofs.simulate.told.Goals as goal

pub returns-in-Ok-clause-ran : goal.returns-in-Ok-clause-ran
returns-in-Ok-clause-ran c text scene input read start run stands =
    whole_of text scene input c.args.ending c.args.world c.into_journal.result c.in-Ok.out read start run
    (record { start_is = c.into_journal.ensures.start; steps_are = c.into_journal.ensures.steps }) (c.in-Ok.ensures text stands)
