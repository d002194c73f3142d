use Rattle.wl_joining.specs.Joining.{is_other, reply_profile}
use Rattle.wl_joining.proofs.Writing.{written_more}
use Rattle.wl_joining.proofs.write.put_answers.Goals as goal

pub links-preserved : goal.links-preserved
links-preserved c =
    let reply = c.args.reply.now in
    written_more (is_other reply.status reply.on) (reply_profile c.args.macs.now reply.status) c.args.out.now c.links.out c.put_answered.new.out c.links.id c.links-test.true c.in_ok-put_answered.ensures.added c.in_ok-put_answered.ensures.bound c.links.invariant
