use Rattle.wl_action.proofs.Words.{one_put}
use Rattle.wl_action.proofs.encode.put_statuses.Goals as goal

pub links-preserved : goal.links-preserved
links-preserved c = one_put c.args.list.now c.links.status-index (record { link = 0; status = 0 }) c.args.out.now c.links.out c.push.new.self c.put_u16.new.out c.links-test.true c.links.invariant c.in_ok-push.ensures.ok c.in_ok-put_u16.ensures
