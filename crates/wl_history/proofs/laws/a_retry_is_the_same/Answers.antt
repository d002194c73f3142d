use Rattle.wl_history.proofs.Sent.{same_retry}
use Rattle.wl_history.proofs.laws.a_retry_is_the_same.Goals as goal

pub returns : goal.returns
returns c = same_retry c.laws_below.ensures.numbers c.laws_below.ensures.windows c.laws_below.ensures.messages c.pairs_in_order.ensures.chain
