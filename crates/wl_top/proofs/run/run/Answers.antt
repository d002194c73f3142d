use Rattle.wl_io.specs.Seen.{seen}
use Rattle.wl_top.specs.Simulated.{journal_in}
use Rattle.wl_top.proofs.Endings.{told_by, run_ended, safe_ended, input_at}
use Rattle.wl_top.proofs.run.run.Goals as goal

pub returns-clause-outcome : goal.returns-clause-outcome
returns-clause-outcome g c words task =
    let source = seen g.S.Source.left g.S.Source.faults c.args.source.now c.read_all.new.source in
    let sink = seen g.K.Sink.taken g.K.Sink.faults c.args.sink.now c.finish.new.sink in
    let text = g.Z.Sealer.text c.args.sealer.now in
    let is_input = input_at source c.in-Ok.input c.as_slice.result.now c.as_slice.ensures c.in-Ok.ensures.all c.in-Ok.ensures.bound c.in-Ok.ensures.unharmed in
    told_by words source sink text c.finish.ensures.0 (journal_in c.simulate.result) c.finish.result c.finish.ensures.2
    (run_ended words source sink text c.as_slice.result.now c.simulate.result c.finish.ensures.0 task is_input c.read_all.ensures.rest c.simulate.ensures.simulated c.finish.ensures.1)

pub returns-clause-safe : goal.returns-clause-safe
returns-clause-safe g c = safe_ended (g.Z.Sealer.text c.args.sealer.now) c.simulate.result c.finish.ensures.0 c.finish.result c.simulate.ensures.safe c.finish.ensures.2
