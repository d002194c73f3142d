use Rattle.std.proofs.Common.{arith, ◌-◌}
use Rattle.wl_mle.proofs.Writing.{known_length, info_put}
use Rattle.wl_mle.proofs.info.put_info.Goals as goal

pub returns : goal.returns
returns g c =
    let i = g.I.Info in
    let fields = i.fields c.args.value.now in
    info_put c.args.out.now (i.word c.args.value.now) c.control.result (c.head_len.result - 2) fields (i.tail c.args.value.now) c.tail.result.now c.put_u16.new.out c.push.new.self c.put_known.new.out c.extend.new.self
    c.control.ensures c.tail.ensures (omega (arith, c.head_len.ensures.exact, known_length fields)) c.in_ok-put_u16.ensures c.in_ok-push.ensures.ok c.in_ok-put_known.ensures c.in_ok-extend.ensures.ok
