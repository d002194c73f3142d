use Rattle.std.proofs.Common.{◌++◌}
use Rattle.std.specs.Prelude.{codes}
use Rattle.std.specs.Fmt.{decimal}
use Rattle.std.specs.String.{string_bytes}
use Rattle.wl_shown.specs.Parts.{flag_text}
use Rattle.wl_shown.proofs.Values.{five_parts, all_added}
use Rattle.wl_shown.proofs.multi_link.push_profile_control.Goals as goal

pub returns : goal.returns
returns c =
    let p = c.args.p.now in
    all_added c.put_number-2.result (string_bytes c.put_number-2.new.out) _ _ c.put_number-2.ensures
    (rw (c.in_ok-put_flag-3.ensures, c.in_ok-put_flag-2.ensures, c.in_ok-put_flag.ensures, c.in_ok-put_number.ensures, c.from.ensures, c.from-2.ensures, c.get.ensures.value) (five_parts (string_bytes c.args.out.now) (codes "sta(link=" ++ decimal p.link) (codes ",complete=" ++ flag_text p.complete) (codes ",pair=" ++ flag_text p.pair) (codes ",wide=" ++ flag_text p.wide) (codes ",spare=" ++ decimal p.spare)))
