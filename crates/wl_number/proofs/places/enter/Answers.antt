use Rattle.std.proofs.Common.{◌∙◌, List, subst}
use Rattle.wl_number.specs.declared.numbers.Numbers.{Numbers}
use Rattle.wl_number.specs.Places.{IsPlace, has_lower_position}
use Rattle.wl_number.proofs.Lists.{entered_is}
use Rattle.wl_number.proofs.places.enter.Goals as goal

pub returns-clause-items : goal.returns-clause-items
returns-clause-items c =
    let place = c.place_of_position-place.result in
    c.in_ok-insert.ensures.items ∙ entered_is c.args.n c.args.list.now.items place (subst (λ (l : List Numbers). IsPlace (has_lower_position c.args.n.pos) l place) c.as_slice.ensures.value c.place_of_position-place.ensures)
