use Rattle.std.proofs.Common.{◌++◌}
use Rattle.std.specs.Prelude.{codes}
use Rattle.std.specs.String.{string_bytes}
use Rattle.std.specs.Fmt.{decimal}
use Rattle.hex.specs.Hex.{encode_lower}
use Rattle.wl_shown.specs.ActionText.{epcs_text}
use Rattle.wl_shown.proofs.Values.{pair, all_added}
use Rattle.wl_shown.proofs.action.push_epcs.Goals as goal

pub returns : goal.returns
unfolding epcs_text
returns c =
    all_added c.push_rest.result (string_bytes c.push_rest.new.out) _ _ c.push_rest.ensures
    (rw (c.in_ok-put_number.ensures, c.from.ensures) (pair (string_bytes c.args.out.now) (codes "epcs(") (codes "action=" ++ decimal c.args.action) (codes "rest=" ++ encode_lower c.args.rest.now) (codes ",") (codes ")")))
