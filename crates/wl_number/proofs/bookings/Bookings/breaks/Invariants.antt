use Rattle.wl_number.specs.Bookings.{lists_of}
use Rattle.wl_number.proofs.Lanes.{SoFar}
use Rattle.wl_number.proofs.bookings.Bookings.breaks.Given as goal

abbrev pub invariant-lanes : goal.invariant-lanes
invariant-lanes l = SoFar (lists_of l.lanes) l.own l.n l.place l.kept
