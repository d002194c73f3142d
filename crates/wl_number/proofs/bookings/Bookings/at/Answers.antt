use Rattle.std.proofs.Common.{ap, ◌∙◌}
use Rattle.wl_number.specs.OrderRule.{list_at, list_of}
use Rattle.wl_number.specs.Bookings.{Book, lists_of}
use Rattle.wl_number.proofs.Lanes.{none_at}
use Rattle.wl_number.proofs.bookings.Bookings.at.Goals as goal

pub returns-clause-none : goal.returns-clause-none
returns-clause-none c = none_at c.args.self.now.lanes c.args.lane c.args.pos c.list_in.result.now c.booked_at.result (c.list_in.ensures ∙ ap (list_at (lists_of c.self.inside.lanes)) c.place_of.ensures.place ∙ ap (λ (b : Book). list_of b.lanes c.args.lane) c.self.view_is) c.booked_at.ensures.none
