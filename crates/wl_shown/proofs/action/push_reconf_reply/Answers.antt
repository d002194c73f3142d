use Rattle.std.proofs.Common.{◌++◌}
use Rattle.std.specs.Prelude.{codes}
use Rattle.std.specs.String.{string_bytes}
use Rattle.std.specs.Fmt.{decimal}
use Rattle.hex.specs.Hex.{encode_lower}
use Rattle.wl_shown.specs.ActionText.{statuses_text, reconf_reply_text}
use Rattle.wl_shown.proofs.Values.{trio, all_added}
use Rattle.wl_shown.proofs.action.push_reconf_reply.Goals as goal

pub returns : goal.returns
unfolding reconf_reply_text
returns c =
    all_added c.push_rest.result (string_bytes c.push_rest.new.out) _ _ c.push_rest.ensures
    (rw (c.in_ok-push_list.ensures, c.in_ok-put_number.ensures, c.from.ensures) (trio (string_bytes c.args.out.now) (codes "reconf-reply(") (codes "token=" ++ decimal c.args.token) (codes "list=" ++ statuses_text c.args.list.now) (codes "rest=" ++ encode_lower c.args.rest.now) (codes ",") (codes ")")))
