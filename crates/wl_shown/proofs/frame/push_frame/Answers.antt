use Rattle.std.proofs.Common.{drop}
use Rattle.std.specs.Prelude.{codes}
use Rattle.std.specs.String.{string_bytes}
use Rattle.wl_shown.specs.FrameText.{kind_text, kind_parts, flag_parts, address_parts, protection_parts, payload_parts}
use Rattle.wl_shown.proofs.Values.{five, all_added}
use Rattle.wl_shown.proofs.frame.push_frame.Goals as goal

pub returns : goal.returns
returns c =
    let f = c.args.f.now in
    let h = f.header in
    all_added c.push_payload.result (string_bytes c.push_payload.new.out) _ _ c.push_payload.ensures
    (rw (c.in_ok-push_protection.ensures, c.in_ok-push_addresses.ensures, c.in_ok-push_flags.ensures, c.in_ok-push_kind.ensures) (five (string_bytes c.args.out.now) (codes "frame(") (kind_text h.kind) (drop 1 (kind_parts h.kind)) (flag_parts h) (address_parts h) (protection_parts f.protection) (payload_parts f.payload.now) (codes ")")))
