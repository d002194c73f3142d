-- Sets of links as bitmaps, bit n for link n.
use Rattle.std.specs.Prelude.{◌≡◌, ℕ, ◌<◌, ◌==◌, ◌^◌, bit_or, Bool, true}
use Rattle.std.specs.Int.{bit_at}

-- link IDs are below 15: the standard reserves 15
abbrev pub link_limit : ℕ
link_limit = 15

-- bitmaps of links are below 2^15
abbrev pub set_limit : ℕ
set_limit = 32768

abbrev pub has_link : ℕ → ℕ → Bool
has_link links link = bit_at links link == 1

-- a set with a link in it
abbrev pub set_with : ℕ → ℕ → ℕ
set_with links link = bit_or links (2 ^ link)

-- each link of the one set is in the other
abbrev pub IsSubset : ℕ → ℕ → Type 0
IsSubset links others = (link : ℕ) → link < link_limit → has_link links link ≡ true → has_link others link ≡ true
