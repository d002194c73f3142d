use Rattle.wl_number.proofs.Rule.{one_order}
use Rattle.wl_number.specs.OrderRule.{list_at}
use Rattle.wl_number.proofs.laws.in_one_order.Goals as goal

pub returns : goal.returns
returns c lanes place a b rule x y = one_order (list_at lanes place) (rule.ascending place) a b x y
