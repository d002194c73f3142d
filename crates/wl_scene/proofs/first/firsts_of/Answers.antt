use Rattle.std.proofs.Common.{List}
use Rattle.wl_elem.specs.declared.lane.EndId.TheVariants.{Ap, Sta}
use Rattle.wl_scene.specs.declared.first.First.{First}
use Rattle.wl_scene.specs.declared.first.Firsts.{Firsts}
use Rattle.wl_scene.specs.Head.{first_of, first_named, ends_of, are_once}
use Rattle.wl_scene.proofs.Ends.{not_three, not_many}
use Rattle.wl_scene.proofs.first.firsts_of.Goals as goal

abbrev firsts_by : List First → Firsts
firsts_by firsts = record { ap = first_named Ap firsts; sta = first_named Sta firsts }

pub returns-in-len3-up-clause-value : goal.returns-in-len3-up-clause-value
returns-in-len3-up-clause-value c =
    not_many (λ (firsts : List First). are_once (ends_of firsts)) firsts_by (λ x y z firsts. not_three x.end y.end z.end (ends_of firsts)) first_of c.args.values.now c.in-len3-up.len_at_least
