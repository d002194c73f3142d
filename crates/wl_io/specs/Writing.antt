-- Writing all of some bytes to a sink.
use Rattle.std.specs.Prelude.{ℕ, ◌≤◌, List, length, take}
use Rattle.wl_io.specs.Faults.{Rose}
use Rattle.wl_io.specs.Seen.{Seen, IsUnharmed}
use Rattle.wl_io.specs.Sink.{Takes}

-- the sink took all of the bytes, and counted no fault
abbrev pub IsWritten : Seen → List ℕ → Type 0
IsWritten sink bytes = Takes sink.bytes sink.bytes' bytes × IsUnharmed sink

-- the sink failed after it took the first bytes, as many as count says
abbrev pub IsWriteFault : Seen → List ℕ → ℕ → Type 0
IsWriteFault sink bytes count = Rose sink.faults sink.faults' × (count ≤ length bytes) × Takes sink.bytes sink.bytes' (take count bytes)
