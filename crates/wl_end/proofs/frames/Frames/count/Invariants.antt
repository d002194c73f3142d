use Rattle.std.proofs.Common.{◌≡◌, take}
use Rattle.wl_end.specs.Parts.{frame_count}
use Rattle.wl_end.proofs.frames.Frames.count.Given as goal

abbrev pub invariant-links : goal.invariant-links
invariant-links l = l.count ≡ frame_count (take l.place l.links)
