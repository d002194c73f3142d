use Rattle.std.proofs.Common.{ap}
use Rattle.wl_number.specs.declared.numbers.Numbers.{Numbers}
use Rattle.wl_number.proofs.Lists.{only_at_pair, is_read}
use Rattle.wl_number.proofs.places.position_with.Goals as goal

pub returns-in_default-clause-none : goal.returns-in_default-clause-none
returns-in_default-clause-none c pos there =
    let found = only_at_pair c.args.list.now c.place_of_pair.result _ c.requires c.place_of_pair.ensures there in
    c.if-b-pn.false (ap (λ (x : Numbers). x.pn) (is_read c.args.list.now c.place_of_pair.result c.in-Some.b.now _ c.in-Some.ensures.lookup.1 found))

pub returns-in_default-2-clause-none : goal.returns-in_default-2-clause-none
returns-in_default-2-clause-none c pos there =
    let found = only_at_pair c.args.list.now c.place_of_pair.result _ c.requires c.place_of_pair.ensures there in
    c.if-b-key.false (ap (λ (x : Numbers). x.key) (is_read c.args.list.now c.place_of_pair.result c.in-Some.b.now _ c.in-Some.ensures.lookup.1 found))
