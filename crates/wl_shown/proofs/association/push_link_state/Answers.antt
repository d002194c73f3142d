use Rattle.std.proofs.Common.{◌++◌}
use Rattle.std.specs.Prelude.{codes}
use Rattle.std.specs.Fmt.{decimal}
use Rattle.std.specs.String.{string_bytes}
use Rattle.wl_shown.specs.AssocText.{link_state_text}
use Rattle.wl_shown.proofs.Values.{in_turn, all_added}
use Rattle.wl_shown.proofs.association.push_link_state.Goals as goal

pub returns : goal.returns
unfolding link_state_text
returns c =
    let s = c.args.s.now in
    all_added c.put_number-3.result (string_bytes c.put_number-3.new.out) _ _ c.put_number-3.ensures
    (rw (c.in_ok-put_number-2.ensures, c.in_ok-put_number.ensures, c.from.ensures, c.from-2.ensures, c.from-3.ensures, c.get.ensures.value) (in_turn (string_bytes c.args.out.now) (codes " / link=" ++ decimal s.link) (codes " capability=" ++ decimal s.capability) (codes " status=" ++ decimal s.status)))
