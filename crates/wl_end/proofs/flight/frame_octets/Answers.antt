use Rattle.std.proofs.Common.{◌≡◌, ◌%◌, ℕ, true, List, length, refl, ap, ◌∙◌, arith}
use Rattle.wl_elem.specs.declared.lane.Lane.{Lane}
use Rattle.wl_elem.specs.declared.lane.Lane.TheVariants as lanes
use Rattle.wl_elem.specs.declared.lane.EndId.{EndId}
use Rattle.wl_frame.specs.declared.header.Protection.{Protection}
use Rattle.wl_frame.specs.Frame.{is_protected, IsProtection}
use Rattle.wl_history.specs.Hearing.{kind_of}
use Rattle.wl_end.specs.Putting.{under}
use Rattle.wl_end.proofs.Writing.{if_ok, writable, text_same, spelled_same}
use Rattle.wl_end.proofs.flight.frame_octets.Goals as goal

lane_protected : (sender : EndId) (lane : Lane) → is_protected (kind_of sender lane) ≡ true
lane_protected sender (lanes.Tid tid) = refl
lane_protected sender lanes.Management = refl

pub encode_frame-requires : goal.encode_frame-requires
encode_frame-requires g c =
    let n = c.args.flight.now.numbers in
    let p : Protection = record { key_id = n.key % 2; pn = n.pn; spare = 0; bits = 0 } in
    let fits : IsProtection p = record { key_id = omega arith; pn = c.requires.range.bound; spare = omega arith; bits = omega arith } in
    let kind : is_protected c.header_on-header.result.kind ≡ true =
    ap (λ h. is_protected h.kind) (c.header_on-header.ensures.value c.args.body.now) ∙ lane_protected c.args.start.now.end c.args.flight.now.lane in
    let payload = ap (λ (x : List ℕ). length x) (c.as_slice.ensures ∙ c.in_ok-text.ensures) in
    let longer = c.sealer_is_sealing.ensures.longer c.new-under.result.key c.new-under.result.nonce c.new-under.result.aad c.args.body.now (record { under = c.new-under.ensures.sound; octets = c.are_octets.ensures; limit = omega (arith, c.requires.short) }) in
    let short = c.requires.short in
    writable c.header_on-header.result p c.as_slice.result.now c.header_on-header.ensures.sound kind fits (omega (arith, payload, longer, short))

pub returns : goal.returns
returns g c =
    let n = c.args.flight.now.numbers in
    let text = g.Z.Sealer.text c.args.z.now in
    let as_under = under c.args.start.now c.args.start.now.end c.args.flight.now.lane n.key n.pn in
    let p : Protection = record { key_id = n.key % 2; pn = n.pn; spare = 0; bits = 0 } in
    let payload = c.as_slice.ensures ∙ c.in_ok-text.ensures ∙ text_same text _ as_under.key _ as_under.nonce _ as_under.aad c.args.body.now c.new-under.ensures.key c.new-under.ensures.nonce c.new-under.ensures.aad in
    let same = spelled_same c.header_on-header.result _ p c.as_slice.result.now _ (c.header_on-header.ensures.value c.args.body.now) payload in
    if_ok _ _ c.encode_frame.result (λ o is. is.text ∙ same) c.encode_frame.ensures
