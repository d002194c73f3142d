use Rattle.std.proofs.Common.{◌≡◌, ◌++◌, take}
use Rattle.std.specs.String.{string_bytes}
use Rattle.wl_shown.specs.AssocText.{asks_text}
use Rattle.wl_shown.proofs.association.push_asks.Given as goal

abbrev pub invariant-asks : goal.invariant-asks
invariant-asks l = string_bytes l.out ≡ string_bytes l.fn.out ++ asks_text (take l.ask-index l.asks)
