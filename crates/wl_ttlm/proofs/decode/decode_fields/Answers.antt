use Rattle.std.proofs.Common.{arith, ◌≡◌, ◌<◌, length, get_or, Some, None}
use Rattle.std.proofs.lemmas.List.Elements.{All-from_get_or, recursion_from_All}
use Rattle.wl_elem.specs.Bits.{has_bit}
use Rattle.wl_elem.proofs.Numbers.{room_for, cut_within}
use Rattle.wl_ttlm.specs.Ttlm.{mapped, widths}
use Rattle.wl_ttlm.proofs.Once.{cut_read, value_takes, is_cut}
use Rattle.wl_ttlm.proofs.decode.decode_fields.Goals as goal

pub overflow_sub-octets : goal.overflow_sub-octets
overflow_sub-octets c =
    let cut : cut_read c.args.control c.args.octets.now ≡ Some c.in-Some.left = cc in
    omega (arith, cut_within (widths c.args.control (mapped (has_bit c.args.control 4) (get_or c.args.octets.now 0 0))) (length c.args.octets.now) c.in-Some.left cut)

pub value_of-requires : goal.value_of-requires
value_of-requires c = room_for (widths c.args.control c.mapped-present.result) (length c.args.octets.now) (cc)

pub returns-in-Some : goal.returns-in-Some
returns-in-Some c =
    let cut : cut_read c.args.control c.args.octets.now ≡ Some c.in-Some.left = cc in
    rw c.at-in-Some.ensures (is_cut c.args.control c.args.octets.now c.in-Some.left c.if-control-eq3.false cut)

pub returns : goal.returns
returns c =
    let whole : cut_read c.args.control c.args.octets.now ≡ None = cc in
    let octets = recursion_from_All (λ octet. octet < 256) c.args.octets.now (All-from_get_or (λ octet. octet < 256) c.args.octets.now 0 (λ i _. omega (arith, c.type_inv.octets i))) in
    rw (c.in_ok-value_of.ensures, c.mapped-present.ensures, c.has_bit.ensures, c.from.ensures) (value_takes c.args.control c.args.octets.now (omega arith) c.if-control-eq3.false octets whole)
