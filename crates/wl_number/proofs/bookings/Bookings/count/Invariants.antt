use Rattle.std.proofs.Common.{◌≡◌, take}
use Rattle.wl_number.specs.Bookings.{booking_count, lists_of}
use Rattle.wl_number.proofs.bookings.Bookings.count.Given as goal

abbrev pub invariant-lanes : goal.invariant-lanes
invariant-lanes l = l.count ≡ booking_count (take l.place (lists_of l.lanes))
