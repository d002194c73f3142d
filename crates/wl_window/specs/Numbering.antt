-- Sequence numbers have 12 bits (IEEE Std 802.11, 9.2.4.4.2). Windows count in full numbers, of which
-- frames carry the lowest 12 bits.
use Rattle.std.specs.Prelude.{ℕ, ◌+◌, ◌-◌, ◌%◌}

-- how far ahead of a full number the next one with these 12 bits is
abbrev pub distance : ℕ → ℕ → ℕ
distance start number = (number + 4096 - start % 4096) % 4096

-- the first full number from a start on that has these 12 bits
abbrev pub full : ℕ → ℕ → ℕ
full start number = start + distance start number
