-- Tables with an entry for each of the 15 links, and sets of links by a test.
use Rattle.std.specs.Prelude.{ℕ, zero, suc, Bool, true, List, Option, None, map, is_some, slice_index_or, ◌&&◌, if◌then◌else◌}
use Rattle.std.specs.List.{range_with_len}
use Rattle.wl_elem.specs.Links.{link_limit, set_with}

-- the table with this entry for each link
unfoldable pub each_link : {A : Type 0} → (ℕ → A) → List A
each_link entry = map entry (range_with_len 0 link_limit)

-- a table's entry for a link
abbrev pub entry_for : {A : Type 0} → List (Option A) → ℕ → Option A
entry_for table link = slice_index_or table link None

-- the table has an entry for the link
abbrev pub is_named : {A : Type 0} → List (Option A) → ℕ → Bool
is_named table link = is_some (entry_for table link)

-- the set of the links below a limit that pass a test
abbrev pub passing_below : (ℕ → Bool) → ℕ → ℕ
passing_below passes zero = 0
passing_below passes (suc n) = if passes n then set_with (passing_below passes n) n else passing_below passes n

-- the set of the links that pass a test
unfoldable pub links_that : (ℕ → Bool) → ℕ
links_that passes = passing_below passes link_limit

-- each link below a limit passes a test
abbrev pub all_below : (ℕ → Bool) → ℕ → Bool
all_below passes zero = true
all_below passes (suc n) = passes n && all_below passes n

-- each link passes a test
unfoldable pub all_links : (ℕ → Bool) → Bool
all_links passes = all_below passes link_limit
