use Rattle.std.proofs.Common.{ap}
use Rattle.wl_history.specs.Scripts.{asks_first}
use Rattle.wl_history.proofs.cursor.Cursor.asks.Goals as goal

pub returns-in-Err-clause-err : goal.returns-in-Err-clause-err
returns-in-Err-clause-err c = (_, ap (asks_first c.args.self.now.stage) c.in-Some.ensures.found)
