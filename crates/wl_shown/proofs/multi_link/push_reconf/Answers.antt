use Rattle.std.proofs.Common.{drop}
use Rattle.std.specs.Prelude.{codes}
use Rattle.std.specs.String.{string_bytes}
use Rattle.wl_shown.specs.MlText.{type_parts, reconf_info, subs_parts, subs_text, reconf_sub_text}
use Rattle.wl_shown.proofs.Values.{three, all_added}
use Rattle.wl_shown.proofs.multi_link.push_reconf.Goals as goal

pub returns : goal.returns
returns c =
    let r = c.args.r.now in
    all_added c.push_reconf_end.result (string_bytes c.push_reconf_end.new.out) _ _ c.push_reconf_end.ensures
    (rw (c.in_ok-push_reconf_info.ensures, c.in_ok-push_type.ensures) (three (string_bytes c.args.out.now) (codes "ml(") (codes "reconf") (drop 1 (type_parts (codes "reconf") r.spare)) (reconf_info r) (subs_parts r.tail (subs_text reconf_sub_text r.subs)) (codes ")")))
