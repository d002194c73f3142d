use Rattle.wl_scene.proofs.Wholes.{one_taken, all_taken}
use Rattle.wl_scene.proofs.numbers.of_u16s.Goals as goal

pub numbers-preserved : goal.numbers-preserved
numbers-preserved c = one_taken c.args.list.now c.numbers.n-index 0 _ _ c.from.result c.numbers-test.true c.from.ensures c.in_ok-push.ensures.items c.numbers.invariant

pub returns : goal.returns
returns c = all_taken c.args.list.now c.numbers.n-index _ c.numbers-test.false c.numbers.invariant
