use Rattle.std.proofs.Common.{◌≡◌, ◌++◌, take}
use Rattle.std.specs.String.{string_bytes}
use Rattle.wl_shown.specs.AssocText.{raw_items}
use Rattle.wl_shown.proofs.association.push_raw.Given as goal

abbrev pub invariant-elements : goal.invariant-elements
invariant-elements l = string_bytes l.out ≡ string_bytes l.fn.out ++ raw_items (take l.e-index l.e-items)
