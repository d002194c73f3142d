use Rattle.wl_history.proofs.Sound.{all_sound}
use Rattle.wl_history.proofs.laws.words_are_told.Goals as goal

pub returns : goal.returns
returns c = λ text start steps legal. (all_sound c.laws_below.ensures.numbers c.laws_below.ensures.windows c.laws_below.ensures.messages c.pairs_in_order.ensures.chain text start steps legal).told
