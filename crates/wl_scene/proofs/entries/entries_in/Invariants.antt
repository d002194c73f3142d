use Rattle.std.proofs.Common.{◌≡◌, drop}
use Rattle.wl_scene.specs.Entries.{entry_of}
use Rattle.wl_scene.proofs.Scripts.{behind, reading_each}
use Rattle.wl_scene.proofs.entries.entries_in.Given as goal

-- what is left, behind the entries so far, is read as all are
abbrev pub invariant-entries : goal.invariant-entries
invariant-entries l = reading_each entry_of l.values ≡ behind l.entries (reading_each entry_of (drop l.value-index l.values))
