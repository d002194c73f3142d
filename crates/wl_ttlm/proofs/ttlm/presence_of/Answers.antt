use Rattle.std.proofs.Common.{arith, ◌≡◌, ◌<◌, ◌-◌, ◌+◌, ◌∙◌, drop, length, ap, None}
use Rattle.wl_elem.specs.Bits.{bit}
use Rattle.wl_ttlm.specs.Ttlm.{presence}
use Rattle.wl_elem.proofs.Numbers.{bit_small}
use Rattle.wl_ttlm.proofs.Writing.{high_bits, presence_more, bool_bit}
use Rattle.wl_ttlm.proofs.ttlm.presence_of.Goals as goal

pub overflow_mul-bits : goal.overflow_mul-bits
overflow_mul-bits c =
    let so_far : c.maps.bits ≡ presence (drop c.maps.tid c.args.maps.now) = c.maps.invariant in
    let small = high_bits c.args.maps.now c.maps.tid c.told-maps c.maps-test.true in
    omega (arith, so_far, small)

pub overflow_add-bits : goal.overflow_add-bits
overflow_add-bits c =
    let so_far : c.maps.bits ≡ presence (drop c.maps.tid c.args.maps.now) = c.maps.invariant in
    let small = high_bits c.args.maps.now c.maps.tid c.told-maps c.maps-test.true in
    let one : c.from.result ≡ bit c.is_some.result = c.from.ensures ∙ bool_bit c.is_some.result in
    omega (arith, so_far, small, one, bit_small c.is_some.result)

pub maps-preserved : goal.maps-preserved
maps-preserved c =
    let so_far : c.maps.bits ≡ presence (drop c.maps.tid c.args.maps.now) = c.maps.invariant in
    let one : c.from.result ≡ bit c.is_some.result = c.from.ensures ∙ bool_bit c.is_some.result in
    let there : bit c.is_some.result ≡ _ = ap bit c.is_some.ensures in
    let next : c.maps.tid - 1 + 1 ≡ c.maps.tid = omega arith in
    let inside : c.maps.tid - 1 < length c.args.maps.now = omega arith in
    let more = presence_more c.args.maps.now (c.maps.tid - 1) None inside in
    omega (arith, so_far, one, there, more, ap (λ n. presence (drop n c.args.maps.now)) next)
