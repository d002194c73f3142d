use Rattle.wl_joining.specs.Joining.{is_other, ask_profile}
use Rattle.wl_joining.proofs.Writing.{written_more}
use Rattle.wl_joining.proofs.write.put_asks.Goals as goal

pub links-preserved : goal.links-preserved
links-preserved c =
    let ask = c.args.ask.now in
    written_more (is_other ask.macs ask.on) (ask_profile ask.macs) c.args.out.now c.links.out c.put_asked.new.out c.links.id c.links-test.true c.in_ok-put_asked.ensures.added c.in_ok-put_asked.ensures.bound c.links.invariant
