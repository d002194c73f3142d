use Rattle.wl_top.proofs.simulate.simulate.Goals as goal

pub play-requires-clause-stands : goal.play-requires-clause-stands
play-requires-clause-stands g c = c.in-Ok-new.ensures.stands (g.Z.Sealer.text c.args.z.now)

pub returns-clause-simulated : goal.returns-clause-simulated
returns-clause-simulated g c = c.play.ensures.simulated c.args.input.now c.in-Ok.ensures.read
