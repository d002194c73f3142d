use Rattle.std.proofs.Common.{ap, ◌∙◌}
use Rattle.serde_json.specs.View.{items_view}
use Rattle.wl_scene.specs.Scene.{scripted}
use Rattle.wl_scene.proofs.Sounds.{sound, too_many, few_enough, within_limit, same_fault, started}
use Rattle.wl_scene.proofs.scene.with_head.Goals as goal

pub returns-then-not-are_few-clause-only : goal.returns-then-not-are_few-clause-only
returns-then-not-are_few-clause-only c = too_many c.args.head.now c.args.values.now c.are_few.result c.are_few.ensures c.if-not-are_few.true

pub items-requires : goal.items-requires
items-requires c = within_limit c.args.values.now c.are_few.result c.are_few.ensures c.if-not-are_few.false

pub returns-in-Err-clause-only : goal.returns-in-Err-clause-only
returns-in-Err-clause-only c = rw (few_enough c.args.head.now c.args.values.now c.are_few.result c.are_few.ensures c.if-not-are_few.false) (same_fault c.args.head.now c.in-Err.fault _ (rw c.as_slice.ensures at c.in-Err.ensures))

pub returns-in-Ok-start : goal.returns-in-Ok-start
returns-in-Ok-start c =
    let made = few_enough c.args.head.now c.args.values.now c.are_few.result c.are_few.ensures c.if-not-are_few.false ∙ ap (scripted c.args.head.now) (rw c.as_slice.ensures at c.in-Ok.ensures) ∙ started c.args.head.now c.in-Ok.before c.in-Ok-start.start c.in-Ok-start.ensures in
    record { only = made; sound = λ h. sound c.args.head.now (items_view c.args.values.now) _ h made }
