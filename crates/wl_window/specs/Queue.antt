-- What goes up from a window, in order.
use Rattle.std.specs.Prelude.{ℕ, ◌-◌, List, ◌++◌, length}

-- what waits, the first to go first, and how many more fit without more memory
pub record Queue (T : Type 0) : Type 0 where
  pub items : List T
  pub spare : ℕ

-- items came to the end of a queue
abbrev pub received : {T : Type 0} → Queue T → List T → Queue T
received queue items = record { items = queue.items ++ items; spare = queue.spare - length items }
