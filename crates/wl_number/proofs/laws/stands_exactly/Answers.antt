use Rattle.wl_number.proofs.Rule.{rule_stands, none_from_rule}
use Rattle.wl_number.proofs.laws.stands_exactly.Goals as goal

pub returns : goal.returns
returns c lanes lane n rule lt = (rule_stands lanes lane n rule, none_from_rule lanes lane n lt)
