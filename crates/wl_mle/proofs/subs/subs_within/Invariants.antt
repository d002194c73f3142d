use Rattle.std.proofs.Common.{◌≡◌, ◌+◌, take}
use Rattle.std.specs.Prelude.{map}
use Rattle.wl_elem.specs.Items.{items_len}
use Rattle.wl_mle.proofs.subs.subs_within.Given as goal

abbrev pub invariant-subs : goal.invariant-subs
invariant-subs g l = items_len (map g.S.Subelement.item (take l.i l.subs)) + l.left ≡ l.room
