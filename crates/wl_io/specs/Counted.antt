-- Readers and writers whose faults are counted.
use Rattle.std.specs.Prelude.{ℕ}

-- what is read or written, and how many faults there were
pub record Counted (X : Type 0) : Type 0 where
  pub inner : X
  pub faults : ℕ
