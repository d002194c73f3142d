use Rattle.std.proofs.Common.{◌≡◌, ◌<◌, ◌≤◌, ◌++◌, ℕ, length, sym, ap, ◌∙◌, arith, nat_eq, false}
use Rattle.std.proofs.lemmas.List.{take-append-drop}
use Rattle.std.proofs.lemmas.Bool.{eqb-false}
use Rattle.wl_elem.specs.Cutting.{fragment_id, piece}
use Rattle.wl_elem.proofs.Pieces.{writes_more}
use Rattle.wl_elem.proofs.put.put_fragments.Goals as goal

pub fragments-preserved : goal.fragments-preserved
fragments-preserved c =
    let rest = c.fragments.rest.now in
    let part = c.split_at.result.0.now in
    let after = c.split_at.result.1.now in
    let split : rest ≡ part ++ after = sym (rw (c.split_at.ensures.front, c.split_at.ensures.back) (take-append-drop c.min.result rest)) in
    let added : c.put_piece.new.out ≡ c.fragments.out ++ piece (fragment_id c.args.kind) part = c.in_ok-put_piece.ensures.ok ∙ ap (λ (id : ℕ). c.fragments.out ++ piece id part) c.fragment_id.ensures in
    let not_empty : nat_eq (length rest) 0 ≡ false = cc in
    let some : 0 < length rest = omega (arith, eqb-false (length rest) 0 not_empty) in
    let mid = c.min.ensures in
    let front = c.split_at.ensures.front_len in
    let back = c.split_at.ensures.back_len in
    let part_some : 0 < length part = omega (arith, some, mid, front, back) in
    let part_short : length part ≤ 255 = omega (arith, mid, front) in
    writes_more c.args.kind c.args.octets.now rest c.args.out.now c.fragments.out part after c.put_piece.new.out c.fragments.invariant split part_some part_short (λ left. omega (arith, left, mid, front, back)) added
