use Rattle.wl_setup.proofs.Tables.{entry_for-each_link}
use Rattle.wl_setup.proofs.laws.entry_of_each_link.Goals as goal

pub returns-clause-addresses : goal.returns-clause-addresses
returns-clause-addresses c = entry_for-each_link

pub returns-clause-statuses : goal.returns-clause-statuses
returns-clause-statuses c = entry_for-each_link
