use Rattle.wl_ttlm.proofs.Mappings.{tid_passes}
use Rattle.wl_ttlm.proofs.mapping.is_tid_set.Goals as goal

pub returns-then-bits-ne0-clause-exact : goal.returns-then-bits-ne0-clause-exact
returns-then-bits-ne0-clause-exact c = tid_passes c.args.links c.args.set c.bits-bits.result c.bits.result c.bits-bits.ensures.value c.bits.ensures.value c.bits-bits.ensures.bound c.if-bits-ne0.true
