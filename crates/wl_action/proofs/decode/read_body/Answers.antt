use Rattle.std.proofs.Common.{arith, ◌<◌}
use Rattle.std.proofs.lemmas.List.Elements.{All-from_get_or, recursion_from_All}
use Rattle.wl_action.proofs.Readings.{behind_answered}
use Rattle.wl_action.proofs.decode.read_body.Goals as goal

pub returns-in-Ok : goal.returns-in-Ok
returns-in-Ok c =
    behind_answered c.args.body.now c.in-Ok.code c.in-Ok.action c.in-Ok.rest.now c.read_behind.result
    (recursion_from_All (λ octet. octet < 256) c.args.body.now (All-from_get_or (λ octet. octet < 256) c.args.body.now 0 (λ i _. omega (arith, c.type_inv.body i)))) c.in-Ok.ensures.ok c.read_behind.ensures
