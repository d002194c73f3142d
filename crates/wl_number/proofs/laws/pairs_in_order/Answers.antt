use Rattle.wl_number.proofs.Pairs.{below_trans, not_back, not_itself}
use Rattle.wl_number.proofs.laws.pairs_in_order.Goals as goal

pub returns-clause-chain : goal.returns-clause-chain
returns-clause-chain c = below_trans

pub returns-clause-one_way : goal.returns-clause-one_way
returns-clause-one_way c = not_back

pub returns-clause-itself : goal.returns-clause-itself
returns-clause-itself c = not_itself
