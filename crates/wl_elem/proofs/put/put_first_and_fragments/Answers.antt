use Rattle.std.proofs.Common.{◌≡◌, ◌≤◌, ◌+◌, ◌++◌, length, sym, arith}
use Rattle.std.proofs.lemmas.List.{take-append-drop}
use Rattle.wl_elem.specs.Element.{information_of}
use Rattle.wl_elem.proofs.Pieces.{adds_pieces}
use Rattle.wl_elem.proofs.put.put_first_and_fragments.Goals as goal

pub returns-clause-ok : goal.returns-clause-ok
returns-clause-ok c =
    let octets = c.args.octets.now in
    let ext = c.args.ext in
    let first = c.split_at.result.0.now in
    let rest = c.split_at.result.1.now in
    let mid = c.min.ensures in
    let room : length (information_of ext first) + c.first_room.result ≡ length first + 255 = c.first_room.ensures first in
    let front = c.split_at.ensures.front_len in
    let back = c.split_at.ensures.back_len in
    let split : octets ≡ first ++ rest = sym (rw (c.split_at.ensures.front, c.split_at.ensures.back) (take-append-drop c.min.result octets)) in
    let short : length (information_of ext first) ≤ 255 = omega (arith, mid, room, front) in
    adds_pieces c.args.kind c.args.id ext octets first rest c.args.out.now c.put_piece.new.out c.put_fragments.new.out split short (λ left. omega (arith, left, mid, room, front, back)) c.in_ok-put_piece.ensures.ok c.in_ok-put_fragments.ensures.ok
