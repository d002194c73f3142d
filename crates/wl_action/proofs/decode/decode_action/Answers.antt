use Rattle.wl_action.proofs.Counts.{elements_counted}
use Rattle.wl_action.proofs.Readings.{answered_only}
use Rattle.wl_action.proofs.decode.decode_action.Goals as goal

pub returns-clause-only : goal.returns-clause-only
returns-clause-only c = answered_only c.read_once.ensures c.args.body.now c.read_body.result c.read_body.ensures

pub returns-clause-count : goal.returns-clause-count
returns-clause-count c = elements_counted c.args.body.now c.read_body.result c.read_body.ensures
