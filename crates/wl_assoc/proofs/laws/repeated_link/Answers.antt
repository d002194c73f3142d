use Rattle.wl_assoc.proofs.Repeated.{is_refused, only_repeated}
use Rattle.wl_assoc.proofs.laws.repeated_link.Goals as goal

pub returns-clause-refused : goal.returns-clause-refused
returns-clause-refused c = is_refused

pub returns-clause-only : goal.returns-clause-only
returns-clause-only c = only_repeated
