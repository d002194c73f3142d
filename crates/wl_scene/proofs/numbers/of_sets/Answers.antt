use Rattle.std.proofs.Common.{ap, ◌∙◌}
use Rattle.wl_scene.specs.Objects.{whole}
use Rattle.wl_scene.proofs.Wholes.{one_taken, all_taken}
use Rattle.wl_scene.proofs.numbers.of_sets.Goals as goal

pub sets-preserved : goal.sets-preserved
sets-preserved c =
    let is = c.from.ensures ∙ ap whole (c.bits.ensures.value ∙ c.set-item.is) in
    one_taken c.args.sets.now c.sets.set-index c.set-item.result _ _ c.from.result c.sets-test.true is c.in_ok-push.ensures.items c.sets.invariant

pub returns : goal.returns
returns c = all_taken c.args.sets.now c.sets.set-index _ c.sets-test.false c.sets.invariant
