use Rattle.std.proofs.Common.{◌++◌}
use Rattle.std.specs.Prelude.{codes}
use Rattle.std.specs.String.{string_bytes}
use Rattle.std.specs.Fmt.{decimal}
use Rattle.hex.specs.Hex.{encode_lower}
use Rattle.wl_shown.specs.Parts.{optional_text}
use Rattle.wl_shown.specs.ActionText.{eml_text}
use Rattle.wl_shown.proofs.Values.{quint, all_added}
use Rattle.wl_shown.proofs.action.push_eml.Goals as goal

pub returns : goal.returns
unfolding eml_text
returns c =
    all_added c.push_rest.result (string_bytes c.push_rest.new.out) _ _ c.push_rest.ensures
    (rw (c.in_ok-put_optional-2.ensures, c.in_ok-put_optional.ensures, c.in_ok-put_number-2.ensures, c.in_ok-put_number.ensures, c.wide_links.ensures, c.wide_update.ensures, c.from.ensures, c.from-2.ensures) (quint (string_bytes c.args.out.now) (codes "eml(") (codes "token=" ++ decimal c.args.token) (codes "control=" ++ decimal c.args.control) (codes "links=" ++ optional_text c.args.links) (codes "update=" ++ optional_text c.args.update) (codes "rest=" ++ encode_lower c.args.rest.now) (codes ",") (codes ")")))
