use Rattle.wl_mle.proofs.Profiles.{refused_here}
use Rattle.wl_mle.proofs.subs.read_subs.Goals as goal

pub returns-in-Err : goal.returns-in-Err
returns-in-Err g c =
    let s = g.S.Subelement in
    refused_here s.slots s.at c.args.list.now c.subs.i c.index-list-i.result c.in-Err.fault c.in_sub.result c.subs-test.true c.index-list-i.is c.subs.invariant.so_far c.in-Err.ensures c.in_sub.ensures
