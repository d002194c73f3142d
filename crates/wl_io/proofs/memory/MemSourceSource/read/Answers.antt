use Rattle.std.proofs.Common.{drop, refl, arith}
use Rattle.wl_io.proofs.Moves.{handed-part}
use Rattle.wl_io.proofs.memory.MemSourceSource.read.Goals as goal

pub returns-clause-handed : goal.returns-clause-handed
returns-clause-handed c =
    let front = handed-part c.self.inside.read c.min-n.result c.self.inside.all c.as_slice.result.now c.copy_from_slice.new.self (drop c.min-n.result c.args.buf.now) c.as_slice.ensures (omega arith) c.copy_from_slice.ensures.after in
    (_, rw (← c.self.view_is) front, refl)
