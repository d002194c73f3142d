use Rattle.std.proofs.Common.{drop}
use Rattle.std.specs.Prelude.{codes}
use Rattle.std.specs.String.{string_bytes}
use Rattle.wl_shown.specs.MlText.{type_parts, common_info, subs_parts, subs_text, basic_sub_text}
use Rattle.wl_shown.proofs.Values.{three, all_added}
use Rattle.wl_shown.proofs.multi_link.push_basic.Goals as goal

pub returns : goal.returns
returns c =
    let b = c.args.b.now in
    all_added c.push_basic_end.result (string_bytes c.push_basic_end.new.out) _ _ c.push_basic_end.ensures
    (rw (c.in_ok-push_common.ensures, c.in_ok-push_type.ensures) (three (string_bytes c.args.out.now) (codes "ml(") (codes "basic") (drop 1 (type_parts (codes "basic") b.spare)) (common_info b.common) (subs_parts b.common.tail (subs_text basic_sub_text b.subs)) (codes ")")))
