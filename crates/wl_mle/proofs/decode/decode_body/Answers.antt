use Rattle.std.proofs.Common.{arith, ◌<◌}
use Rattle.std.proofs.lemmas.List.Elements.{All-from_get_or, recursion_from_All}
use Rattle.wl_mle.proofs.Once.{answered, answered_only}
use Rattle.wl_mle.proofs.decode.decode_body.Goals as goal

pub returns-clause-read : goal.returns-clause-read
returns-clause-read c =
    answered c.items_are_octets.ensures c.args.body.now c.value_of_body.result
    (recursion_from_All (λ octet. octet < 256) c.args.body.now (All-from_get_or (λ octet. octet < 256) c.args.body.now 0 (λ i _. omega (arith, c.type_inv.body i)))) c.value_of_body.ensures

pub returns-clause-only : goal.returns-clause-only
returns-clause-only c =
    answered_only c.read_once.ensures c.args.body.now c.value_of_body.result
    (answered c.items_are_octets.ensures c.args.body.now c.value_of_body.result
    (recursion_from_All (λ octet. octet < 256) c.args.body.now (All-from_get_or (λ octet. octet < 256) c.args.body.now 0 (λ i _. omega (arith, c.type_inv.body i)))) c.value_of_body.ensures)
