use Rattle.std.proofs.Common.{◌++◌}
use Rattle.std.specs.Prelude.{codes}
use Rattle.std.specs.String.{string_bytes}
use Rattle.std.specs.Fmt.{decimal}
use Rattle.wl_shown.specs.ActionText.{addba_reply_text}
use Rattle.wl_shown.proofs.Values.{quad, all_added}
use Rattle.wl_shown.proofs.action.push_addba_reply.Goals as goal

pub returns : goal.returns
unfolding addba_reply_text
returns c =
    all_added c.push_last.result (string_bytes c.push_last.new.out) _ _ c.push_last.ensures
    (rw (c.in_ok-put_number-3.ensures, c.in_ok-put_number-2.ensures, c.in_ok-put_number.ensures, c.from.ensures, c.from-2.ensures, c.from-3.ensures, c.from-4.ensures) (quad (string_bytes c.args.out.now) (codes "addba-reply(") (codes "token=" ++ decimal c.args.token) (codes "status=" ++ decimal c.args.status) (codes "params=" ++ decimal c.args.params) (codes "timeout=" ++ decimal c.args.timeout) (codes ",") (codes ")")))
