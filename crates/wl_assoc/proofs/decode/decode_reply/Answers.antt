use Rattle.std.proofs.Common.{rules}
use Rattle.wl_assoc.specs.Association.{ReadsReply}
use Rattle.wl_assoc.proofs.Bodies.{answered_only}
use Rattle.wl_assoc.proofs.decode.decode_reply.Goals as goal

pub returns-in_err-elements-clause-only : goal.returns-in_err-elements-clause-only
returns-in_err-elements-clause-only c = answered_only c.from_residual.result (ReadsReply c.args.body.now) (c.reply_read_once.ensures c.args.body.now) (search rules)

pub returns-clause-only : goal.returns-clause-only
returns-clause-only c reading is = c.reply_read_once.ensures c.args.body.now reading _ is (search rules)
