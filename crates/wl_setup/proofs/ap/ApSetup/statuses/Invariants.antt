use Rattle.wl_setup.specs.Ap.{status_given}
use Rattle.wl_setup.specs.Messages.{asked_status}
use Rattle.wl_setup.proofs.Tables.{IsFilledTo}
use Rattle.wl_setup.proofs.ap.ApSetup.statuses.Given as goal

abbrev pub invariant-links : goal.invariant-links
invariant-links l = IsFilledTo (asked_status l.ask.macs (status_given l.carried l.self l.ask l.powered)) l.status l.id
