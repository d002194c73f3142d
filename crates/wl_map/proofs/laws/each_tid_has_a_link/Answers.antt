use Rattle.std.proofs.Common.{subst}
use Rattle.wl_map.specs.Agreeing.{IsAgreed}
use Rattle.wl_map.specs.Ends.{opened, of_direction, agreed_sets}
use Rattle.wl_map.specs.Calls.{after_calls}
use Rattle.wl_map.proofs.Keeping.{calls_keep, opened_is, direction_is, sets_pass}
use Rattle.wl_map.proofs.laws.each_tid_has_a_link.Goals as goal

pub returns-clause-explicit : goal.returns-clause-explicit
returns-clause-explicit c deny start calls d mapping low are is =
    let kept = calls_keep calls (opened deny start) are (opened_is deny start low) in
    let s = after_calls (opened deny start) calls in
    c.a_mapping_passes.ensures.only s.links mapping.sets kept.links (subst (IsAgreed s.links) is (direction_is d s kept))

pub returns-clause-every : goal.returns-clause-every
returns-clause-every c deny start calls d low are some =
    let kept = calls_keep calls (opened deny start) are (opened_is deny start low) in
    let s = after_calls (opened deny start) calls in
    c.a_mapping_passes.ensures.only s.links (agreed_sets d s) kept.links (sets_pass s.links (of_direction d s) some (direction_is d s kept))
