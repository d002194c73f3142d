use Rattle.std.proofs.Common.{sym, ◌∙◌}
use Rattle.wl_scene.proofs.Counts.{loop_counts}
use Rattle.serde_json.specs.View.{view}
use Rattle.wl_scene.proofs.items.counted.Goals as goal

pub returns-in-Some-list : goal.returns-in-Some-list
returns-in-Some-list c = loop_counts (view c.args.value.now) c.in-Some.times c.in-Some-list.values.now c.product.result (sym c.if-not-has_text.false ∙ c.has_text.ensures) c.in-Some.ensures c.in-Some-list.ensures c.product.ensures
