use Rattle.wl_elem.specs.Lanes.{lane_index}
use Rattle.wl_number.specs.OrderRule.{list_of}
use Rattle.wl_history.proofs.Lanes.{found_in}
use Rattle.wl_history.proofs.laws.a_booking_is_found.Goals as goal

pub returns : goal.returns
returns c = λ lanes lane n rule there. found_in (list_of lanes lane) (rule.ascending (lane_index lane)) n there
