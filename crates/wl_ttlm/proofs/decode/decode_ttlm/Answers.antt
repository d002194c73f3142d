use Rattle.wl_ttlm.proofs.Once.{only_reading}
use Rattle.wl_ttlm.proofs.decode.decode_ttlm.Goals as goal

pub returns-clause-only : goal.returns-clause-only
returns-clause-only c = only_reading c.args.element.now.body c.decode_body.result (rw c.body.ensures.value at c.decode_body.ensures)
