use Rattle.std.proofs.Common.{rules}
use Rattle.wl_assoc.specs.Association.{ReadsAsk}
use Rattle.wl_assoc.proofs.Bodies.{answered_only}
use Rattle.wl_assoc.proofs.decode.decode_ask.Goals as goal

pub returns-in_err-elements-clause-only : goal.returns-in_err-elements-clause-only
returns-in_err-elements-clause-only c = answered_only c.from_residual.result (ReadsAsk c.args.body.now) (c.ask_read_once.ensures c.args.body.now) (search rules)

pub returns-clause-only : goal.returns-clause-only
returns-clause-only c reading is = c.ask_read_once.ensures c.args.body.now reading _ is (search rules)
