use Rattle.std.proofs.Common.{◌++◌}
use Rattle.std.specs.Prelude.{codes}
use Rattle.std.specs.Fmt.{decimal}
use Rattle.std.specs.String.{string_bytes}
use Rattle.wl_shown.specs.Parts.{optional_octets}
use Rattle.wl_shown.proofs.Values.{in_turn, all_added}
use Rattle.wl_shown.proofs.association.push_link_fields.Goals as goal

pub returns : goal.returns
returns c =
    let a = c.args.a.now in
    all_added c.put_number-2.result (string_bytes c.put_number-2.new.out) _ _ c.put_number-2.ensures
    (rw (c.in_ok-put_address.ensures, c.in_ok-put_number.ensures, c.from.ensures, c.from-2.ensures, c.get.ensures.value) (in_turn (string_bytes c.args.out.now) (codes " / link=" ++ decimal a.link) (codes " mac=" ++ optional_octets a.mac) (codes " capability=" ++ decimal a.capability)))
