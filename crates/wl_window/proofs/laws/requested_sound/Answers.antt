use Rattle.wl_window.proofs.Keeping.{requested_sound}
use Rattle.wl_window.proofs.laws.requested_sound.Goals as goal

pub returns : goal.returns
returns g c = requested_sound
