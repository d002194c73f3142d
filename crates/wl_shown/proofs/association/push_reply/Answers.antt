use Rattle.std.proofs.Common.{◌++◌}
use Rattle.std.specs.Prelude.{codes}
use Rattle.std.specs.Fmt.{decimal}
use Rattle.std.specs.String.{string_bytes}
use Rattle.wl_shown.specs.AssocText.{reply_text}
use Rattle.wl_shown.proofs.Values.{trio, all_added}
use Rattle.wl_shown.proofs.association.push_reply.Goals as goal

pub returns : goal.returns
unfolding reply_text
returns c =
    let reply = c.args.reply.now in
    all_added c.push_last.result (string_bytes c.push_last.new.out) _ _ c.push_last.ensures
    (rw (c.in_ok-put_number-2.ensures, c.in_ok-put_number.ensures, c.from.ensures, c.from-2.ensures, c.from-3.ensures) (trio (string_bytes c.args.out.now) (codes "assoc-reply(") (codes "capability=" ++ decimal reply.capability) (codes "status=" ++ decimal reply.status) (codes "aid=" ++ decimal reply.aid) (codes ",") (codes ")")))
