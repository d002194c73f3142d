use Rattle.wl_scene.proofs.Wholes.{next_link, all_links}
use Rattle.wl_scene.proofs.numbers.of_links.Goals as goal

pub links-preserved : goal.links-preserved
links-preserved c = next_link c.args.set c.links.id c.in-Some.link _ _ _ c.links-test.true c.in-Some.ensures.value c.in_ok-push_link-in-Some.ensures c.links.invariant

pub returns : goal.returns
returns c = all_links c.args.set c.links.id _ c.links-test.false c.links.invariant
