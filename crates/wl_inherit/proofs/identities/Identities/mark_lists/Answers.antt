use Rattle.wl_inherit.proofs.Marking.{both_lists}
use Rattle.wl_inherit.proofs.identities.Identities.mark_lists.Goals as goal

pub returns : goal.returns
returns c = both_lists _ c.args.self.now _ c.mark_octets.ensures c.mark_octets-2.ensures
