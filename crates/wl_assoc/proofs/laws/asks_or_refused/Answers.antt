use Rattle.wl_assoc.proofs.Total.{is_asking}
use Rattle.wl_assoc.proofs.laws.asks_or_refused.Goals as goal

pub returns : goal.returns
returns c = is_asking c.read_or_refused.ensures c.bodies_are_octets.ensures c.items_are_octets.ensures c.read_or_refused-2.ensures c.expanded_or_refused.ensures
