use Rattle.std.proofs.Common.{List}
use Rattle.wl_elem.specs.declared.lane.EndId.{EndId}
use Rattle.wl_elem.specs.declared.lane.EndId.TheVariants.{Ap, Sta}
use Rattle.wl_scene.specs.declared.policy.Denials.{Denials}
use Rattle.wl_scene.specs.Head.{denier_of, has_end, are_once}
use Rattle.wl_scene.proofs.Ends.{not_three, not_many}
use Rattle.wl_scene.proofs.policy.denials_of.Goals as goal

abbrev denials_by : List EndId → Denials
denials_by ends = record { ap = has_end Ap ends; sta = has_end Sta ends }

pub returns-in-len3-up : goal.returns-in-len3-up
returns-in-len3-up c = not_many are_once denials_by not_three denier_of c.args.values.now c.in-len3-up.len_at_least
