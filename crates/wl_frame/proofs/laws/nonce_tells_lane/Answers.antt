use Rattle.wl_frame.proofs.Lanes.{tells_lane}
use Rattle.wl_frame.proofs.laws.nonce_tells_lane.Goals as goal

pub returns : goal.returns
returns c = tells_lane
