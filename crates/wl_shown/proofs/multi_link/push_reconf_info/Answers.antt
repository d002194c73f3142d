use Rattle.std.proofs.Common.{◌++◌}
use Rattle.std.specs.Prelude.{codes}
use Rattle.std.specs.String.{string_bytes}
use Rattle.wl_shown.specs.Parts.{optional_text, optional_octets}
use Rattle.wl_shown.proofs.Values.{four_parts, all_added}
use Rattle.wl_shown.proofs.multi_link.push_reconf_info.Goals as goal

pub returns : goal.returns
returns c =
    let r = c.args.r.now in
    all_added c.put_word-3.result (string_bytes c.put_word-3.new.out) _ _ c.put_word-3.ensures
    (rw (c.in_ok-put_word-2.ensures, c.in_ok-put_word.ensures, c.in_ok-put_address.ensures) (four_parts (string_bytes c.args.out.now) (codes ",mld=" ++ optional_octets r.mld) (codes ",eml=" ++ optional_text r.eml) (codes ",caps=" ++ optional_text r.caps) (codes ",ext=" ++ optional_text r.ext)))
