use Rattle.std.proofs.Common.{◌++◌}
use Rattle.std.specs.Prelude.{codes}
use Rattle.std.specs.String.{string_bytes}
use Rattle.std.specs.Fmt.{decimal}
use Rattle.hex.specs.Hex.{encode_lower}
use Rattle.wl_shown.specs.ActionText.{delba_text}
use Rattle.wl_shown.proofs.Values.{trio, all_added}
use Rattle.wl_shown.proofs.action.push_delba.Goals as goal

pub returns : goal.returns
unfolding delba_text
returns c =
    all_added c.push_rest.result (string_bytes c.push_rest.new.out) _ _ c.push_rest.ensures
    (rw (c.in_ok-put_number-2.ensures, c.in_ok-put_number.ensures, c.from.ensures, c.from-2.ensures) (trio (string_bytes c.args.out.now) (codes "delba(") (codes "params=" ++ decimal c.args.params) (codes "reason=" ++ decimal c.args.reason) (codes "rest=" ++ encode_lower c.args.rest.now) (codes ",") (codes ")")))
