use Rattle.std.proofs.Common.{◌++◌}
use Rattle.std.specs.Prelude.{codes}
use Rattle.std.specs.String.{string_bytes}
use Rattle.wl_shown.specs.Parts.{optional_text}
use Rattle.wl_shown.proofs.Values.{four_parts, all_added}
use Rattle.wl_shown.proofs.multi_link.push_common_capabilities.Goals as goal

pub returns : goal.returns
returns c =
    let common = c.args.c.now in
    all_added c.put_word-3.result (string_bytes c.put_word-3.new.out) _ _ c.put_word-3.ensures
    (rw (c.in_ok-put_octet.ensures, c.in_ok-put_word-2.ensures, c.in_ok-put_word.ensures) (four_parts (string_bytes c.args.out.now) (codes ",eml=" ++ optional_text common.eml) (codes ",caps=" ++ optional_text common.caps) (codes ",apid=" ++ optional_text common.apid) (codes ",ext=" ++ optional_text common.ext)))
