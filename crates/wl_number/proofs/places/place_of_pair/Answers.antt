use Rattle.std.proofs.Common.{rules}
use Rattle.std.proofs.lemmas.List.Sorted.{IsPartitionPoint-from_clause}
use Rattle.wl_number.specs.Places.{has_lower_pair}
use Rattle.wl_number.proofs.Lists.{parted, pair_goes_down, is_place}
use Rattle.wl_number.proofs.places.place_of_pair.Goals as goal

pub returns : goal.returns
returns c =
    let test = has_lower_pair c.args.key c.args.pn in
    is_place test c.args.list.now c.partition_point.result c.partition_point.ensures.bound (IsPartitionPoint-from_clause test _ _ c.partition_point.ensures.partitioned (parted test c.args.list.now c.requires (pair_goes_down c.args.key c.args.pn)) (λ a r q k. search rules))
