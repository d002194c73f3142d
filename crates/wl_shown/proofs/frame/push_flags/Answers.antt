use Rattle.std.proofs.Common.{◌++◌}
use Rattle.std.specs.Prelude.{codes}
use Rattle.std.specs.Fmt.{decimal}
use Rattle.std.specs.String.{string_bytes}
use Rattle.wl_shown.specs.Parts.{flag_text}
use Rattle.wl_shown.proofs.Values.{four_parts, all_added}
use Rattle.wl_shown.proofs.frame.push_flags.Goals as goal

pub returns : goal.returns
returns c =
    let h = c.args.h.now in
    all_added c.put_number.result (string_bytes c.put_number.new.out) _ _ c.put_number.ensures
    (rw (c.in_ok-put_flag-3.ensures, c.in_ok-put_flag-2.ensures, c.in_ok-put_flag.ensures, c.from.ensures) (four_parts (string_bytes c.args.out.now) (codes ",retry=" ++ flag_text h.retry) (codes ",power=" ++ flag_text h.power) (codes ",more=" ++ flag_text h.more) (codes ",duration=" ++ decimal h.duration)))
