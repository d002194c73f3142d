use Rattle.std.proofs.Common.{◌≡◌, ◌≤◌, ◌-◌, ◌^◌, length}
use Rattle.wl_window.specs.Queue.{received}
use Rattle.wl_window.specs.Reordering.{IsRising, advanced}
use Rattle.wl_window.proofs.reorder.advance.Given as goal

abbrev pub invariant-due : goal.invariant-due
invariant-due g l = record {
  rising : IsRising 0 (2 ^ 32 - 1) l.slots.items;
  spare : length (advanced l.start l.slots.items).up ≤ l.up.spare;
  window : (advanced l.start l.slots.items).window ≡ (advanced l.fn.to l.fn.slots.items).window;
  up : received l.up (advanced l.start l.slots.items).up ≡ received l.fn.up (advanced l.fn.to l.fn.slots.items).up;
  kept : l.slots.cap ≡ l.fn.slots.cap;
}

abbrev pub decreases-due : goal.decreases-due
decreases-due g l = length l.slots.items
