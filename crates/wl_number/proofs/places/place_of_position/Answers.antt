use Rattle.std.proofs.Common.{rules}
use Rattle.std.proofs.lemmas.List.Sorted.{IsPartitionPoint-from_clause}
use Rattle.wl_number.specs.Places.{has_lower_position}
use Rattle.wl_number.proofs.Lists.{parted, position_goes_down, is_place}
use Rattle.wl_number.proofs.places.place_of_position.Goals as goal

pub returns : goal.returns
returns c =
    let test = has_lower_position c.args.pos in
    is_place test c.args.list.now c.partition_point.result c.partition_point.ensures.bound (IsPartitionPoint-from_clause test _ _ c.partition_point.ensures.partitioned (parted test c.args.list.now c.requires (position_goes_down c.args.pos)) (λ a r q k. search rules))
