use Rattle.std.proofs.Common.{eq-eqb}
use Rattle.std.proofs.lemmas.Bool.{and_from}
use Rattle.wl_history.proofs.Safety.{OrderLaws, safe}
use Rattle.wl_history.proofs.laws.every_history_is_safe.Goals as goal

pub returns : goal.returns
returns c =
    let orders : OrderLaws = record {
      trans = c.pairs_in_order.ensures.chain;
      by_pair = c.in_pair_order.ensures;
      one_booking = λ lanes place other a b rule x y keys pns. c.booked_once.ensures lanes place other a b rule x y (and_from _ _ (eq-eqb a.key b.key keys) (eq-eqb a.pn b.pn pns));
    } in
    safe c.laws_below.ensures.numbers c.laws_below.ensures.windows c.laws_below.ensures.messages orders
