use Rattle.std.proofs.Common.{ℕ, ◌≡◌, length, get_or, arith, ◌∙◌, ap, length-set, None}
use Rattle.std.specs.Prelude.{unwrap_or}
use Rattle.wl_map.specs.Agreeing.{named}
use Rattle.wl_map.proofs.Sets.{same_more, same_all, named_at, length-named}
use Rattle.wl_map.proofs.agreed.named.Goals as goal

pub tids-preserved : goal.tids-preserved
tids-preserved c =
    let maps = c.args.maps.now in
    let sets = c.args.sets.now in
    let tid = c.tids.tid in
    let m : length maps ≡ 8 = omega arith in
    let n : length sets ≡ 8 = omega arith in
    record {
      eight = length-set c.tids.bitmaps tid c.unwrap_or.result ∙ c.tids.invariant.eight;
      so_far = same_more c.tids.bitmaps (named maps sets) tid c.unwrap_or.result (omega arith) (omega (arith, length-named maps sets m n)) c.tids.invariant.so_far
          (c.unwrap_or.ensures ∙ ap (λ (n : ℕ). unwrap_or (get_or maps tid None) n) c.bits.ensures.value ∙ named_at maps sets tid c.index-sets-tid.result None (omega arith) (omega arith));
    }

pub returns-clause-value : goal.returns-clause-value
returns-clause-value c =
    let m : length c.args.maps.now ≡ 8 = omega arith in
    let n : length c.args.sets.now ≡ 8 = omega arith in
    same_all c.tids.bitmaps (named c.args.maps.now c.args.sets.now) c.tids.tid (omega arith) (omega (arith, length-named c.args.maps.now c.args.sets.now m n)) c.tids.invariant.so_far
