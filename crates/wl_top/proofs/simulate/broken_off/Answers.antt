use Rattle.std.proofs.Common.{length, ap, subst, ◌∙◌}
use Rattle.std.proofs.lemmas.List.{length-reverse}
use Rattle.wl_air.specs.declared.fault.StepFault.{StepFault}
use Rattle.wl_top.specs.Simulated.{BrokenOff}
use Rattle.wl_top.proofs.Simulations.{reached_of}
use Rattle.wl_top.proofs.simulate.broken_off.Goals as goal

pub returns-in-Forged-clause-simulated : goal.returns-in-Forged-clause-simulated
returns-in-Forged-clause-simulated c text scene input read start fault stands =
    let stops = subst (λ (f : StepFault). BrokenOff text scene c.args.world.steps f) c.in-Forged.is fault in
    c.told.ensures.ran text scene input read start
    (c.in-Forged.field-0, stops, ap length c.as_slice.ensures ∙ length-reverse c.journal.result.now.steps ∙ ap length c.journal.ensures.steps)
    stands

pub returns-in-Memory-clause-simulated : goal.returns-in-Memory-clause-simulated
returns-in-Memory-clause-simulated c text scene input read start fault stands =
    let reaches = subst (λ (f : StepFault). BrokenOff text scene c.args.world.steps f) c.in-Memory.is fault in
    reached_of text scene input c.args.world c.into_journal.result read start (record { start_is = c.into_journal.ensures.start; steps_are = c.into_journal.ensures.steps }) reaches
