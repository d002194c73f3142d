use Rattle.wl_map.specs.Agreeing.{sets_of, changed}
use Rattle.wl_map.proofs.Keeping.{passed_low, none_over_none}
use Rattle.wl_map.proofs.laws.valid_exactly.Goals as goal

pub returns-clause-words : goal.returns-clause-words
returns-clause-words c links before change low =
    let sets = sets_of links (changed links before change) in (
      λ passes. (passed_low links sets low passes, c.a_mapping_passes.ensures.only links sets low passes),
      λ is. c.a_mapping_passes.ensures.passes links sets is.0 is.1,
    )

pub returns-clause-no_link : goal.returns-clause-no_link
returns-clause-no_link c = none_over_none
