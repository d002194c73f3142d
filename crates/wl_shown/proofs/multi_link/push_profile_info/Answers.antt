use Rattle.std.proofs.Common.{◌≡◌, ◌++◌}
use Rattle.std.specs.Prelude.{codes}
use Rattle.std.specs.String.{string_bytes}
use Rattle.wl_shown.specs.Parts.{more_parts, optional_text, optional_octets}
use Rattle.wl_shown.specs.MlText.{profile_info}
use Rattle.wl_shown.proofs.Values.{six_parts, all_added}
use Rattle.wl_shown.proofs.multi_link.push_profile_info.Goals as goal

pub returns : goal.returns
returns c =
    let p = c.args.p.now in
    let whole : string_bytes c.put_word-3.new.out ++ (codes ",count=" ++ optional_text p.count) ≡ string_bytes c.args.out.now ++ more_parts (profile_info p) =
    rw (c.in_ok-put_word-3.ensures, c.in_ok-put_word-2.ensures, c.in_ok-put_optional.ensures, c.in_ok-put_word.ensures, c.in_ok-put_address.ensures)
    (six_parts (string_bytes c.args.out.now) (codes ",mac=" ++ optional_octets p.mac) (codes ",beacon=" ++ optional_text p.beacon) (codes ",tsf=" ++ optional_text p.tsf) (codes ",dtim=" ++ optional_text p.dtim) (codes ",nstr=" ++ optional_text p.nstr) (codes ",count=" ++ optional_text p.count)) in
    all_added c.put_octet.result (string_bytes c.put_octet.new.out) (string_bytes c.put_word-3.new.out ++ (codes ",count=" ++ optional_text p.count)) (string_bytes c.args.out.now ++ more_parts (profile_info p)) c.put_octet.ensures whole
