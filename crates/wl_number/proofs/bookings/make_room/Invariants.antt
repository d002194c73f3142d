use Rattle.wl_number.proofs.Lanes.{RoomSoFar}
use Rattle.wl_number.proofs.bookings.make_room.Given as goal

abbrev pub invariant-lanes : goal.invariant-lanes
invariant-lanes l = RoomSoFar l.initial.lanes l.lanes l.place
