use Rattle.std.proofs.Common.{rules, ◌<◌, ◌+◌, ◌^◌, length, sym, ap, ◌∙◌, arith}
use Rattle.serde_json.specs.View.{view}
use Rattle.serde_json.specs.declared.value.Value.{Value}
use Rattle.wl_scene.specs.Items.{item_of}
use Rattle.wl_scene.proofs.Counts.{before_place, places_more}
use Rattle.wl_scene.proofs.Scripts.{item_more}
use Rattle.wl_scene.proofs.items.items.Goals as goal

pub overflow_add-result : goal.overflow_add-result
overflow_add-result c =
    let is = ap (λ (v : Value). item_of c.args.links.now (view v)) (sym c.value-item.is) ∙ rw c.in-Err-Refused.field-0-is at c.in-Err-Refused.ensures in
    let over = before_place c.args.links.now c.args.values.now c.commands.value-index c.value-item.result c.commands.before c.in-Err-Refused.place c.commands-test.true c.commands.invariant.few is in
    let fits : length c.args.values.now + 65538 < 2 ^ 64 = search rules in
    rw c.in-Err-Refused.field-0-is (omega (arith, over, fits))

pub commands-preserved : goal.commands-preserved
commands-preserved c =
    let is = ap (λ (v : Value). item_of c.args.links.now (view v)) (sym c.value-item.is) ∙ c.in-Ok.ensures in
    rw (c.in-Ok-push.ensures.ok, c.places-before.ensures) record {
      read = item_more c.args.links.now c.args.values.now c.commands.value-index c.value-item.result c.commands.script c.commands.before c.in-Ok.item _ c.commands-test.true c.commands.invariant.read is;
      few = places_more c.args.links.now c.args.values.now c.commands.value-index c.value-item.result c.commands.before c.in-Ok.item c.commands-test.true c.commands.invariant.few is;
    }
