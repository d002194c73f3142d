use Rattle.std.proofs.Common.{◌++◌}
use Rattle.std.specs.Prelude.{codes}
use Rattle.std.specs.Fmt.{decimal}
use Rattle.std.specs.String.{string_bytes}
use Rattle.wl_shown.specs.AssocText.{ask_text}
use Rattle.wl_shown.proofs.Values.{pair, all_added}
use Rattle.wl_shown.proofs.association.push_ask.Goals as goal

pub returns : goal.returns
unfolding ask_text
returns c =
    let ask = c.args.ask.now in
    all_added c.push_last.result (string_bytes c.push_last.new.out) _ _ c.push_last.ensures
    (rw (c.in_ok-put_number.ensures, c.from.ensures, c.from-2.ensures) (pair (string_bytes c.args.out.now) (codes "assoc-ask(") (codes "capability=" ++ decimal ask.capability) (codes "listen=" ++ decimal ask.listen) (codes ",") (codes ")")))
