use Rattle.std.proofs.Common.{rules}
use Rattle.wl_assoc.specs.Profiles.{AsksAs}
use Rattle.wl_assoc.proofs.Bodies.{answered_only}
use Rattle.wl_assoc.proofs.setup.ask_profiles.Goals as goal

pub returns-in_err-entries-clause-only : goal.returns-in_err-entries-clause-only
returns-in_err-entries-clause-only c = answered_only c.from_residual.result (AsksAs c.args.ask.now) (c.asks_once.ensures c.args.ask.now) (search rules)

pub returns-clause-only : goal.returns-clause-only
returns-clause-only c reading is = c.asks_once.ensures c.args.ask.now reading _ is (search rules)
