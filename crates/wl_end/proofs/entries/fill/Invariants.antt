use Rattle.std.proofs.Common.{◌≡◌, ◌+◌, ◌-◌, ◌++◌, ◌≤◌, max, length, replicate, vec_capacity}
use Rattle.wl_end.proofs.entries.fill.Given as goal

abbrev pub invariant-gap : goal.invariant-gap
invariant-gap g l = record {
  items : l.list.items ≡ l.fn.list.items ++ replicate (length l.list.items - length l.fn.list.items) l.entry;
  grown : length l.fn.list.items ≤ length l.list.items;
  short : length l.list.items ≤ max (l.place + 1) (length l.fn.list.items);
  room : vec_capacity l.list ≡ vec_capacity l.fn.list;
}

abbrev pub decreases-gap : goal.decreases-gap
decreases-gap g l = l.place + 1 - length l.list.items
