use Rattle.std.proofs.Common.{◌≡◌, ◌+◌, ◌-◌, ◌^◌, length, drop}
use Rattle.wl_window.specs.Reordering.{IsRising, advanced}
use Rattle.wl_window.proofs.reorder.due_from.Given as goal

abbrev pub invariant-due : goal.invariant-due
invariant-due g l = record {
  rising : IsRising 0 (2 ^ 32 - 1) (drop l.index l.slots.items);
  count : (l.index - l.first) + length (advanced l.start (drop l.index l.slots.items)).up ≡ length (advanced l.to (drop l.first l.slots.items)).up;
  end : (advanced l.start (drop l.index l.slots.items)).window.start ≡ (advanced l.to (drop l.first l.slots.items)).window.start;
}
