use Rattle.wl_scene.proofs.Requests.{too_many}
use Rattle.wl_scene.proofs.entries.entries_in.Goals as goal

pub returns-then-values-gt2 : goal.returns-then-values-gt2
returns-then-values-gt2 c = too_many c.args.values.now c.if-values-gt2.true
