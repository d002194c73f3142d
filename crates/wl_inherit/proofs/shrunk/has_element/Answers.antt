use Rattle.std.proofs.Common.{sym}
use Rattle.wl_inherit.proofs.Pairing.{any_found}
use Rattle.wl_inherit.proofs.shrunk.has_element.Goals as goal

pub returns : goal.returns
returns c = any_found c.args.list.now c.args.id c.args.ext c.find.result c.is_some.result (sym c.is_some.ensures) c.find.ensures
