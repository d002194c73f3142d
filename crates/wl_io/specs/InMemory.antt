-- Sources and sinks in memory, as callers see them.
use Rattle.std.specs.Prelude.{ℕ, List, ◌++◌, drop}
use Rattle.wl_io.specs.Counts.{risen}

-- The bytes are those that a source has left, or those that a sink took. The calls whose numbers
-- are failing fail; each other call moves at most so many bytes.
pub record InMemory : Type 0 where
  pub bytes : List ℕ
  pub failing : List ℕ
  pub most : ℕ
  pub calls : ℕ
  pub faults : ℕ

-- before any call
abbrev pub unused : List ℕ → List ℕ → ℕ → InMemory
unused bs numbers limit = record { bytes = bs; failing = numbers; most = limit; calls = 0; faults = 0 }

-- a source after a call that read so many bytes
abbrev pub after_read : InMemory → ℕ → InMemory
after_read s n = record s { bytes = drop n s.bytes; calls = risen s.calls }

-- a sink after a call that took these bytes
abbrev pub after_write : InMemory → List ℕ → InMemory
after_write s bs = record s { bytes = s.bytes ++ bs; calls = risen s.calls }

-- either of them after a call that failed
abbrev pub after_failed : InMemory → InMemory
after_failed s = record s { calls = risen s.calls; faults = risen s.faults }
