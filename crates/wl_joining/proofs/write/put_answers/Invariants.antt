use Rattle.wl_joining.specs.Joining.{is_other, reply_profile}
use Rattle.wl_joining.proofs.Writing.{IsWrittenTo}
use Rattle.wl_joining.proofs.write.put_answers.Given as goal

abbrev pub invariant-links : goal.invariant-links
invariant-links l = IsWrittenTo (is_other l.reply.status l.reply.on) (reply_profile l.macs l.reply.status) l.fn.out l.out l.id
