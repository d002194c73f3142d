use Rattle.std.proofs.Common.{◌≡◌, length, arith, ◌∙◌, length-set}
use Rattle.wl_map.specs.Agreeing.{kept}
use Rattle.wl_map.proofs.Sets.{same_more, kept_at, length-kept}
use Rattle.wl_map.proofs.agreed.kept.Goals as goal

pub tids-preserved : goal.tids-preserved
tids-preserved c =
    let bitmaps = c.args.bitmaps.now in
    let eight : length bitmaps ≡ 8 = omega arith in record {
      eight = length-set c.tids.sets c.tids.tid c.common.result ∙ c.tids.invariant.eight;
      so_far = same_more c.tids.sets (kept c.args.links bitmaps) c.tids.tid c.common.result (omega arith) (omega (arith, length-kept c.args.links bitmaps)) c.tids.invariant.so_far
          (c.common.ensures ∙ kept_at c.args.links bitmaps c.tids.tid 0 (omega arith));
    }
