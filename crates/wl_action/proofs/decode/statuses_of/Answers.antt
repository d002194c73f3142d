use Rattle.std.proofs.Common.{◌≡◌, ◌++◌, ◌-◌, ◌+◌, ℕ, suc, ap, sym, ◌∙◌, arith, length-drop, length}
use Rattle.wl_action.specs.Reading.{statuses_in}
use Rattle.wl_action.proofs.Words.{one_link, no_link}
use Rattle.wl_action.proofs.decode.statuses_of.Goals as goal

pub links-preserved : goal.links-preserved
links-preserved c =
    let next : c.args.count - c.links._link ≡ suc (c.args.count - (c.links._link + 1)) = omega arith in
    let left = c.links.left.now in
    record {
      so_far = one_link c.links.list c.push.new.self (c.args.count - (c.links._link + 1)) c.u16_at.result left c.behind-left.result.now (statuses_in c.args.count c.args.octets.now) (ap (λ (n : ℕ). c.links.list ++ statuses_in n left) (sym next) ∙ c.links.invariant.so_far) c.u16_at.ensures c.in_ok-push.ensures.ok c.behind-left.ensures;
      room = omega (arith, c.links.invariant.room, next, ap length c.behind-left.ensures, length-drop 3 left);
    }

pub returns : goal.returns
returns c = no_link c.links.list (c.args.count - c.links._link) c.links.left.now (statuses_in c.args.count c.args.octets.now) (omega arith) c.links.invariant.so_far
