use Rattle.wl_joining.proofs.Again.{carrying_address, carrying_asked, carrying_answered}
use Rattle.wl_joining.proofs.laws.the_carrying_link_is_named.Goals as goal

pub returns-clause-address : goal.returns-clause-address
returns-clause-address c = carrying_address c.entry_of_each_link.ensures.addresses

pub returns-clause-asked : goal.returns-clause-asked
returns-clause-asked c = carrying_asked c.entry_of_each_link.ensures.addresses

pub returns-clause-answered : goal.returns-clause-answered
returns-clause-answered c = carrying_answered c.entry_of_each_link.ensures.statuses
