use Rattle.std.specs.String.{string_bytes}
use Rattle.wl_shown.proofs.VerdictTexts.{verdict_added}
use Rattle.wl_shown.proofs.check.push_line.Goals as goal

pub returns-in-Ok-push_str-clause-judged : goal.returns-in-Ok-push_str-clause-judged
returns-in-Ok-push_str-clause-judged c =
    verdict_added c.args.line.now c.in-Ok.kind c.read_hex_line.new.octets.items c.as_slice.result.now c.in-Ok-push_verdict.accepted (string_bytes c.args.out.now) (string_bytes c.push_verdict.new.out) (string_bytes c.push_str.new.self)
    c.in-Ok.ensures.read c.as_slice.ensures.value c.in-Ok-push_verdict.ensures c.in-Ok-push_str.ensures.bytes
