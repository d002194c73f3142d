use Rattle.std.proofs.Common.{rules, ◌<◌, ◌^◌, ◌+◌, length, arith}
use Rattle.wl_scene.proofs.Counts.{number_within}
use Rattle.wl_scene.proofs.items.repeat.Goals as goal

pub overflow_add-result : goal.overflow_add-result
overflow_add-result c =
    let fits : length c.in-Some-list.values.now + 1 < 2 ^ 64 = search rules in
    let within = number_within c.args.links.now c.in-Some-list.values.now c.in-Err-Refused.place (rw c.in-Err-Refused.field-0-is at c.in-Err-Refused.ensures) in
    omega (arith, within, fits)
