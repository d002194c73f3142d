use Rattle.std.proofs.Common.{◌≡◌, ◌++◌, take}
use Rattle.std.specs.Prelude.{flat_map}
use Rattle.std.specs.String.{string_bytes}
use Rattle.wl_shown.specs.AssocText.{link_state_text}
use Rattle.wl_shown.proofs.association.push_each_state.Given as goal

abbrev pub invariant-states : goal.invariant-states
invariant-states l = string_bytes l.out ≡ string_bytes l.fn.out ++ flat_map link_state_text (take l.state-index l.states)
