use Rattle.std.proofs.Common.{false, get_or, arith}
use Rattle.wl_inherit.proofs.Marking.{marked_more}
use Rattle.wl_inherit.proofs.identities.mark_octets.Goals as goal

pub octets-preserved : goal.octets-preserved
octets-preserved c n = marked_more c.octets.table c.args.octets.now c.octets.octet-index n (get_or c.args.table.now n false) c.octets-test.true (omega arith) (c.octets.invariant n)
