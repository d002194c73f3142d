use Rattle.wl_frame.specs.Reading.{reading}
use Rattle.wl_frame.proofs.Once.{is_reading}
use Rattle.wl_frame.proofs.laws.read_or_refused.Goals as goal

pub returns : goal.returns
returns c octets is = (reading octets, is_reading octets is)
