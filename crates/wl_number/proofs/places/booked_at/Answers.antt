use Rattle.std.proofs.Common.{◌∙◌, ap}
use Rattle.wl_number.specs.declared.numbers.Numbers.{Numbers}
use Rattle.wl_number.proofs.Lists.{only_at_position, is_read}
use Rattle.wl_number.proofs.places.booked_at.Goals as goal

pub returns-in_default-clause-none : goal.returns-in_default-clause-none
returns-in_default-clause-none c n there is =
    let found = only_at_position c.args.pos c.args.list.now c.place_of_position.result c.requires c.place_of_position.ensures n there is in
    c.if-b-pos.false (ap (λ (x : Numbers). x.pos) (is_read c.args.list.now c.place_of_position.result c.in-Some.b.now n c.in-Some.ensures.lookup.1 found) ∙ is)
