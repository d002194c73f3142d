use Rattle.wl_history.proofs.Sent.{turned_first}
use Rattle.wl_history.proofs.laws.a_turn_begins_anew.Goals as goal

pub returns : goal.returns
returns c = turned_first c.laws_below.ensures.numbers c.laws_below.ensures.windows c.laws_below.ensures.messages c.pairs_in_order.ensures.chain
