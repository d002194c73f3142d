use Rattle.wl_inherit.proofs.Marking.{no_marks}
use Rattle.wl_inherit.proofs.identities.Identities.none.Goals as goal

pub returns : goal.returns
returns c id ext = no_marks 256 id ext
