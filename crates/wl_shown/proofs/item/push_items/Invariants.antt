use Rattle.std.specs.String.{string_bytes}
use Rattle.wl_shown.proofs.Items.{Continues}
use Rattle.wl_shown.proofs.item.push_items.Given as goal

abbrev pub invariant-loop-i : goal.invariant-loop-i
invariant-loop-i l = Continues l.shown l.e-items l.i (string_bytes l.fn.items) (string_bytes l.items)
