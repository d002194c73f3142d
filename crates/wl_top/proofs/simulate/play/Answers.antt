use Rattle.std.proofs.Common.{◌∙◌}
use Rattle.wl_top.proofs.Simulations.{played_to, script_fits}
use Rattle.wl_top.proofs.simulate.play.Goals as goal

pub returns-clause-simulated : goal.returns-clause-simulated
returns-clause-simulated g c input read =
    c.came.ensures.simulated (g.Z.Sealer.text c.args.z.now) c.args.scenario.now input read (c.play-played.ensures.start ∙ c.requires.start)
    (played_to (g.Z.Sealer.text c.args.z.now) c.args.scenario.now c.args.world c.play-played.new.self c.play-played.result c.requires.start c.play-played.ensures.start c.requires.begun (c.play-played.ensures.stands c.requires.stands) c.play-played.ensures.done c.play-played.ensures.fault)
    (c.play-played.ensures.stands c.requires.stands)

pub returns-clause-safe : goal.returns-clause-safe
returns-clause-safe g c = c.came.ensures.safe (g.Z.Sealer.text c.args.z.now) (c.play-played.ensures.stands c.requires.stands)

pub play-played-requires-clause-fits : goal.play-played-requires-clause-fits
play-played-requires-clause-fits g c = script_fits c.args.world c.args.scenario.now c.requires.start c.requires.sound.fit
