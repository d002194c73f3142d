use Rattle.std.proofs.Common.{◌≡◌, ◌++◌, take, map}
use Rattle.wl_assoc.specs.Profiles.{state_of}
use Rattle.wl_assoc.proofs.setup.put_states.Given as goal

abbrev pub invariant-entries : goal.invariant-entries
invariant-entries l = l.states ≡ l.fn.states ++ map state_of (take l.entry-index l.entries)
