use Rattle.std.proofs.Common.{◌++◌}
use Rattle.std.specs.Prelude.{codes}
use Rattle.std.specs.String.{string_bytes}
use Rattle.hex.specs.Hex.{encode_lower}
use Rattle.wl_shown.specs.ActionText.{teardown_text}
use Rattle.wl_shown.proofs.Values.{solo, all_added}
use Rattle.wl_shown.proofs.action.push_teardown.Goals as goal

pub returns : goal.returns
unfolding teardown_text
returns c =
    all_added c.push_rest.result (string_bytes c.push_rest.new.out) _ _ c.push_rest.ensures
    (solo (string_bytes c.args.out.now) (codes "map-teardown(") (codes "rest=" ++ encode_lower c.args.rest.now) (codes ")"))
