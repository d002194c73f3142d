use Rattle.std.proofs.Common.{arith, ◌<◌, length}
use Rattle.std.specs.Prelude.{is_ok}
use Rattle.wl_number.proofs.Lanes.{entered_lists, items_at}
use Rattle.wl_number.proofs.bookings.enter_at.Goals as goal

pub returns-clause-lists : goal.returns-clause-lists
returns-clause-lists c =
    let within : c.args.place < length c.args.lanes.now = omega arith in
    entered_lists c.args.lanes.now c.args.place _ _ (is_ok c.enter.result) c.args.n within (items_at c.args.lanes.now c.args.place c.index-lanes-place.result within) c.enter.ensures.items
