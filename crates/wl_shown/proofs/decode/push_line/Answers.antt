use Rattle.std.specs.String.{string_bytes}
use Rattle.wl_shown.proofs.Texts.{line_added}
use Rattle.wl_shown.proofs.decode.push_line.Goals as goal

pub returns-in-Ok-push_str-clause-shown : goal.returns-in-Ok-push_str-clause-shown
returns-in-Ok-push_str-clause-shown c =
    line_added c.args.line.now c.in-Ok.kind c.read_hex_line.new.octets.items c.as_slice.result.now (string_bytes c.args.out.now) (string_bytes c.push_shown.new.out) (string_bytes c.push_str.new.self)
    c.in-Ok.ensures.read c.as_slice.ensures.value c.in-Ok-push_shown.ensures c.in-Ok-push_str.ensures.bytes
