use Rattle.std.proofs.Common.{◌+◌, ◌≤◌, length, vec_len, vec_capacity}
use Rattle.wl_end.proofs.Releasing.{Comes}
use Rattle.wl_end.proofs.heard.release.Given as goal

abbrev pub invariant-ups : goal.invariant-ups
invariant-ups l = record {
  comes : Comes l.lane l.guard l.fn.guard l.ups.items l.fn.ups.items l.released.items l.fn.released.items l.up.items l.fn.up.items;
  room : vec_len l.released + length l.ups.items ≤ vec_capacity l.released;
  up_room : vec_len l.up + length l.ups.items ≤ vec_capacity l.up;
}

abbrev pub decreases-ups : goal.decreases-ups
decreases-ups l = length l.ups.items
