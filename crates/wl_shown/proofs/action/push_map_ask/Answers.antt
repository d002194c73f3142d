use Rattle.std.proofs.Common.{◌++◌}
use Rattle.std.specs.Prelude.{codes}
use Rattle.std.specs.String.{string_bytes}
use Rattle.std.specs.Fmt.{decimal}
use Rattle.wl_shown.specs.ActionText.{map_ask_text}
use Rattle.wl_shown.proofs.Values.{solo, all_added}
use Rattle.wl_shown.proofs.action.push_map_ask.Goals as goal

pub returns : goal.returns
unfolding map_ask_text
returns c =
    all_added c.push_last.result (string_bytes c.push_last.new.out) _ _ c.push_last.ensures
    (rw (c.from.ensures) (solo (string_bytes c.args.out.now) (codes "map-ask(") (codes "token=" ++ decimal c.args.token) (codes ")")))
