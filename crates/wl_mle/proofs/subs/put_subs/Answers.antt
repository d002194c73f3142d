use Rattle.wl_mle.proofs.Writing.{subs_more}
use Rattle.wl_mle.proofs.subs.put_subs.Goals as goal

pub subs-preserved : goal.subs-preserved
subs-preserved g c = subs_more g.S.Subelement.item c.args.subs.now c.subs.i c.index-subs-i.result c.args.out.now c.subs.out c.put.new.out c.subs-test.true c.index-subs-i.is c.subs.invariant c.in_ok-put.ensures
