use Rattle.std.proofs.Common.{◌++◌}
use Rattle.std.specs.Prelude.{codes}
use Rattle.std.specs.Fmt.{decimal}
use Rattle.std.specs.String.{string_bytes}
use Rattle.wl_shown.specs.Parts.{flag_text}
use Rattle.wl_shown.proofs.Values.{five_parts, all_added}
use Rattle.wl_shown.proofs.multi_link.push_change_control.Goals as goal

pub returns : goal.returns
returns c =
    let change = c.args.c.now in
    all_added c.put_number-3.result (string_bytes c.put_number-3.new.out) _ _ c.put_number-3.ensures
    (rw (c.in_ok-put_flag-2.ensures, c.in_ok-put_number-2.ensures, c.in_ok-put_flag.ensures, c.in_ok-put_number.ensures, c.from.ensures, c.from-2.ensures, c.from-3.ensures, c.get.ensures.value) (five_parts (string_bytes c.args.out.now) (codes "chg(link=" ++ decimal change.link) (codes ",complete=" ++ flag_text change.complete) (codes ",op=" ++ decimal change.op) (codes ",params=" ++ flag_text change.params) (codes ",spare=" ++ decimal change.spare)))
