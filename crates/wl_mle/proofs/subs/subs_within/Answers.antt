use Rattle.std.proofs.Common.{◌+◌, ◌≤◌, length, arith}
use Rattle.wl_elem.specs.Items.{written_len}
use Rattle.wl_mle.proofs.Lengths.{len_more, len_front}
use Rattle.wl_mle.proofs.subs.subs_within.Goals as goal

pub subs-preserved : goal.subs-preserved
subs-preserved g c =
    let more = len_more g.S.Subelement.item c.args.subs.now c.subs.i c.index-subs-i.result c.subs-test.true c.index-subs-i.is in
    omega (arith, c.subs.invariant, c.in-Some.ensures.left, more)

pub returns-in-None : goal.returns-in-None
returns-in-None g c =
    let item = g.S.Subelement.item in
    let more = len_more item c.args.subs.now c.subs.i c.index-subs-i.result c.subs-test.true c.index-subs-i.is in
    let front = len_front item c.args.subs.now (c.subs.i + 1) in (
      λ h. absurd (cc h),
      λ fits.
          let one : written_len (length (item c.index-subs-i.result).octets) ≤ c.subs.left = omega (arith, fits, more, front, c.subs.invariant) in
          absurd (cc (c.in-None.ensures.some.1 one)),
    )
