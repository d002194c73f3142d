use Rattle.std.proofs.Common.{refl}
use Rattle.wl_window.specs.Numbers12.{padded}
use Rattle.wl_window.proofs.numbers12.zeros.Goals as goal

pub returns : goal.returns
unfolding padded
returns c = refl
