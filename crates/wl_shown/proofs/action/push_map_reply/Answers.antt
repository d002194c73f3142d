use Rattle.std.proofs.Common.{◌++◌}
use Rattle.std.specs.Prelude.{codes}
use Rattle.std.specs.String.{string_bytes}
use Rattle.std.specs.Fmt.{decimal}
use Rattle.wl_shown.specs.ActionText.{map_reply_text}
use Rattle.wl_shown.proofs.Values.{pair, all_added}
use Rattle.wl_shown.proofs.action.push_map_reply.Goals as goal

pub returns : goal.returns
unfolding map_reply_text
returns c =
    all_added c.push_last.result (string_bytes c.push_last.new.out) _ _ c.push_last.ensures
    (rw (c.in_ok-put_number.ensures, c.from.ensures, c.from-2.ensures) (pair (string_bytes c.args.out.now) (codes "map-reply(") (codes "token=" ++ decimal c.args.token) (codes "status=" ++ decimal c.args.status) (codes ",") (codes ")")))
