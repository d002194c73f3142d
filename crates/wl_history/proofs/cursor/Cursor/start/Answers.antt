use Rattle.std.proofs.Common.{ap}
use Rattle.wl_history.specs.Scripts.{cursor_at}
use Rattle.wl_history.specs.declared.script.Stage.TheVariants.{Reserving}
use Rattle.wl_history.proofs.Cursors.{from_first}
use Rattle.wl_history.proofs.cursor.Cursor.start.Goals as goal

pub returns : goal.returns
returns c script = ap (cursor_at Reserving) (from_first script)
