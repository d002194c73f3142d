use Rattle.wl_scene.proofs.Wholes.{all_runs}
use Rattle.wl_scene.proofs.runs.of_runs.Goals as goal

pub returns : goal.returns
returns c = all_runs c.args.first c.positions.pos-index c.positions.begun.first c.positions.begun.last c.args.rest.now _ _ c.positions-test.false c.positions.invariant c.in_ok-push_run.ensures
