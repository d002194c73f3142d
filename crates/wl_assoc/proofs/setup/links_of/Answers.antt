use Rattle.std.proofs.Common.{rules}
use Rattle.wl_assoc.specs.Profiles.{StatesAs}
use Rattle.wl_assoc.proofs.Bodies.{answered_only}
use Rattle.wl_assoc.proofs.setup.links_of.Goals as goal

pub returns-in_err-entries-clause-only : goal.returns-in_err-entries-clause-only
returns-in_err-entries-clause-only c = answered_only c.from_residual.result (StatesAs c.args.reply.now c.args.on) (c.states_once.ensures c.args.reply.now c.args.on) (search rules)

pub returns-clause-only : goal.returns-clause-only
returns-clause-only c reading is = c.states_once.ensures c.args.reply.now c.args.on reading _ is (search rules)
