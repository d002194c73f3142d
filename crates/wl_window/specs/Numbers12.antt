-- A list of up to 1,024 sequence numbers, kept in place.
use Rattle.std.specs.Prelude.{◌≡◌, ℕ, ◌-◌, ◌<◌, ◌≤◌, List, ◌++◌, length, take, replicate}
use Rattle.std.specs.List.{AllByRecursion}
use Rattle.wl_window.specs.declared.numbers12.Numbers12.TheInside.{Inside}

-- the places of the numbers, with zeros behind them
unfoldable pub padded : List ℕ → List ℕ
padded numbers = numbers ++ replicate (1024 - length numbers) 0

-- the fields that hold these numbers
abbrev pub of_numbers : List ℕ → Inside
of_numbers numbers = record { numbers = padded numbers; len = length numbers }

abbrev pub numbers_of : Inside → List ℕ
numbers_of list = take list.len list.numbers

-- what the fields keep
pub record IsNumbers12 (list : Inside) : Type 0 where
  pub whole : of_numbers (numbers_of list) ≡ list
  pub fit : list.len ≤ 1024
  pub short : AllByRecursion (λ number. number < 4096) (numbers_of list)
