use Rattle.wl_window.proofs.Keeping.{stored_sound}
use Rattle.wl_window.proofs.laws.stored_sound.Goals as goal

pub returns : goal.returns
returns g c = stored_sound
