use Rattle.std.proofs.Common.{arith}
use Rattle.wl_action.proofs.Words.{one_length}
use Rattle.wl_action.proofs.well_formed.statuses_len.Goals as goal

pub links-preserved : goal.links-preserved
links-preserved c =
    let inv = c.links.invariant in
    let more = one_length c.args.list.now c.links.s-index (record { link = 0; status = 0 }) c.links.len c.links-test.true inv.counted inv.typed c.u8_len.ensures.fits c.u16_len.ensures.fits in
    let one = c.u8_len.ensures.exact in
    let two = c.u16_len.ensures.exact in
    record { counted = omega (arith, more.counted, one, two); short = omega (arith, inv.short, one, two); typed = more.typed }
