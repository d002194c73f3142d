use Rattle.std.proofs.Common.{ap, sym, refl, ◌∙◌}
use Rattle.serde_json.specs.View.{view}
use Rattle.serde_json.specs.declared.value.Value.{Value}
use Rattle.wl_scene.specs.Commands.{command_of}
use Rattle.wl_scene.proofs.Scripts.{reading, begins, plain_more, plain_wrong, ends}
use Rattle.wl_scene.proofs.items.plains.Goals as goal

pub commands-init : goal.commands-init
commands-init c = rw c.new-body.ensures (begins (reading c.args.links.now c.args.values.now))

pub returns-in-Err-Wrong : goal.returns-in-Err-Wrong
returns-in-Err-Wrong c =
    let none = rw c.in-Err-Wrong.field-0-is at c.in-Err-Wrong.ensures in
    plain_wrong c.args.links.now c.args.values.now c.commands.i c.index-values-i.result c.commands.body _ c.commands-test.true c.commands.invariant (ap (λ (v : Value). command_of c.args.links.now (view v)) (sym c.index-values-i.is) ∙ none)

pub commands-preserved : goal.commands-preserved
commands-preserved c =
    rw c.in-Ok-push.ensures.ok
    (plain_more c.args.links.now c.args.values.now c.commands.i c.index-values-i.result c.commands.body c.in-Ok.plain _ c.commands-test.true c.commands.invariant (ap (λ (v : Value). command_of c.args.links.now (view v)) (sym c.index-values-i.is) ∙ c.in-Ok.ensures))

pub returns : goal.returns
returns c = ends (reading c.args.links.now) c.args.values.now c.commands.i c.commands.i c.commands.body _ refl c.commands-test.false c.commands.invariant
