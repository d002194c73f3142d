use Rattle.std.proofs.Common.{ℕ, ◌<◌}
use Rattle.std.specs.List.{Contains}
use Rattle.wl_number.specs.OrderRule.{list_at}
use Rattle.wl_number.specs.Bookings.{lists_of}
use Rattle.wl_number.proofs.bookings.Bookings.of_pair.Given as goal

abbrev pub invariant-lanes : goal.invariant-lanes
invariant-lanes l = (p pos : ℕ) → p < l.place → Contains (list_at (lists_of l.lanes) p) (record { pos = pos; key = l.key; pn = l.pn }) → ⊥
