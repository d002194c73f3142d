use Rattle.std.proofs.Common.{◌≡◌, ◌-◌, length}
use Rattle.wl_history.specs.Cursors.{cursor_of}
use Rattle.wl_history.proofs.cursor.Cursor.find.Given as goal

abbrev pub invariant-items : goal.invariant-items
invariant-items l = cursor_of l.script l.self ≡ cursor_of l.script l.initial.self

abbrev pub decreases-items : goal.decreases-items
decreases-items l = length l.items - l.self.item
