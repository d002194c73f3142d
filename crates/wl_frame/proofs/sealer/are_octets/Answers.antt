use Rattle.std.proofs.Common.{arith, ◌<◌}
use Rattle.std.proofs.lemmas.List.Elements.{All-from_get_or, recursion_from_All}
use Rattle.wl_frame.proofs.sealer.are_octets.Goals as goal

pub returns : goal.returns
returns c = recursion_from_All (λ octet. octet < 256) c.args.octets.now (All-from_get_or (λ octet. octet < 256) c.args.octets.now 0 (λ i _. omega (arith, c.type_inv.octets i)))
