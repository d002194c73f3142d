use Rattle.wl_setup.specs.Messages.{asked_status}
use Rattle.wl_setup.specs.Status.{unspecified_failure}
use Rattle.wl_setup.proofs.Tables.{IsFilledTo}
use Rattle.wl_setup.proofs.table.refusals.Given as goal

abbrev pub invariant-links : goal.invariant-links
invariant-links l = IsFilledTo (asked_status l.macs (λ link. unspecified_failure)) l.status l.id
