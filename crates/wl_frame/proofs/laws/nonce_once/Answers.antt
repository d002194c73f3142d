use Rattle.wl_frame.proofs.Lanes.{same_number}
use Rattle.wl_frame.proofs.laws.nonce_once.Goals as goal

pub returns : goal.returns
returns c kind = same_number kind kind
