use Rattle.std.proofs.Common.{◌≡◌, length, arith}
use Rattle.wl_scene.proofs.Requests.{none_left, one_read, all_eight, not_eight}
use Rattle.wl_scene.proofs.entries.eight.Goals as goal

pub returns-in_ok-seven-in-len8 : goal.returns-in_ok-seven-in-len8
returns-in_ok-seven-in-len8 c =
    let values = c.args.values.now in
    let eight : length values ≡ 8 = omega arith in
    all_eight values _ eight
    (one_read values 0 c.zero-item.result _ _ (omega arith) c.zero-item.is c.in_ok-zero-in-len8.ensures
    (one_read values 1 c.one-item.result _ _ (omega arith) c.one-item.is c.in_ok-one-in-len8.ensures
    (one_read values 2 c.two-item.result _ _ (omega arith) c.two-item.is c.in_ok-two-in-len8.ensures
    (one_read values 3 c.three-item.result _ _ (omega arith) c.three-item.is c.in_ok-three-in-len8.ensures
    (one_read values 4 c.four-item.result _ _ (omega arith) c.four-item.is c.in_ok-four-in-len8.ensures
    (one_read values 5 c.five-item.result _ _ (omega arith) c.five-item.is c.in_ok-five-in-len8.ensures
    (one_read values 6 c.six-item.result _ _ (omega arith) c.six-item.is c.in_ok-six-in-len8.ensures
    (one_read values 7 c.seven-item.result _ _ (omega arith) c.seven-item.is c.in_ok-seven-in-len8.ensures
    (none_left values eight)))))))))

pub returns-in_default : goal.returns-in_default
returns-in_default c = not_eight c.args.values.now (λ same. omega arith)

pub returns-in_default-2 : goal.returns-in_default-2
returns-in_default-2 c = not_eight c.args.values.now (λ same. omega arith)
