use Rattle.wl_action.proofs.Total.{all_read}
use Rattle.wl_action.proofs.laws.read_or_refused.Goals as goal

pub returns : goal.returns
returns c = all_read (record { lists = c.read_or_refused.ensures; bodies = c.bodies_are_octets.ensures; maps = c.read_or_refused-2.ensures; links = c.read_or_refused-3.ensures })
