use Rattle.std.proofs.Common.{◌≡◌, true, is_some, sym, subst, arith}
use Rattle.std.proofs.lemmas.Grind.{common_steps}
use Rattle.wl_history.specs.declared.start.LinkStart.{LinkStart}
use Rattle.wl_history.specs.Ends.{link_at}
use Rattle.wl_scene.proofs.Policies.{each_among, one_among}
use Rattle.wl_scene.proofs.policy.all_of.Goals as goal

pub links-preserved : goal.links-preserved
links-preserved c =
    let links = c.args.links.now in
    let there = subst (λ (link : LinkStart). is_some (link_at link.id links) ≡ true) (sym c.link-item.is) (each_among links c.links.link-index c.link-item.result c.links-test.true) in
    record { whole = grind (arith, common_steps); among = one_among links c.links.set c.with-set.result c.link-item.result.id c.links.invariant.among there c.with-set.ensures.has }
