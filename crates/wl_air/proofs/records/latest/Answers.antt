use Rattle.std.proofs.Common.{◌∙◌}
use Rattle.wl_air.proofs.Lasts.{last_found}
use Rattle.wl_air.proofs.records.latest.Goals as goal

pub returns-in_default : goal.returns-in_default
returns-in_default g c = c.record_at.ensures ∙ last_found c.args.records.now
