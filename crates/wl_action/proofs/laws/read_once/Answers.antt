use Rattle.wl_action.proofs.Readings.{one_reading}
use Rattle.wl_action.proofs.laws.read_once.Goals as goal

pub returns : goal.returns
returns c = one_reading (record { lists = c.read_once.ensures; maps = c.read_once-2.ensures; links = c.read_once-3.ensures })
