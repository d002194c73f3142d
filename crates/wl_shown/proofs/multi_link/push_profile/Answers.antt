use Rattle.std.proofs.Common.{drop}
use Rattle.std.specs.Prelude.{codes}
use Rattle.std.specs.Fmt.{decimal}
use Rattle.std.specs.String.{string_bytes}
use Rattle.wl_shown.specs.Parts.{named}
use Rattle.wl_shown.specs.MlText.{profile_control, profile_info, rest_parts}
use Rattle.wl_shown.proofs.Values.{three, all_added}
use Rattle.wl_shown.proofs.multi_link.push_profile.Goals as goal

pub returns : goal.returns
returns c =
    let p = c.args.p.now in
    all_added c.push_rest.result (string_bytes c.push_rest.new.out) _ _ c.push_rest.ensures
    (rw (c.as_slice.ensures, c.as_slice-2.ensures, c.in_ok-push_profile_info.ensures, c.in_ok-push_profile_control.ensures) (three (string_bytes c.args.out.now) (codes "sta(") (named (codes "link") (decimal p.link)) (drop 1 (profile_control p)) (profile_info p) (rest_parts p.tail p.body) (codes ")")))
